-- What a client is told: the beat and the age, and of entities which of them it is shown, and row
-- by row, a row for each that is shown.
use Rattle.std.specs.Prelude.{ℕ, not, List, map, Option, Some, option_map, Bool}
use Rattle.std.specs.List.{filter, flat_map, fold}
use Rattle.std.specs.Ordering.{int_cmp}
use Rattle.std.specs.FinMap.{FinMap, contains_key, from_entries, get, insert, keys}
use lib.IntN.{ℤ, pos}
use Rattle.mc_fields.specs.declared.position.Spot.{Spot}
use Rattle.mc_slots.specs.declared.slot.Slot.{Slot}
use Rattle.mc_slots.specs.declared.pile.Pile.{Pile}
use Rattle.mc_slots.specs.declared.pile.Pile.TheVariants.{Empty, Full}
use Rattle.mc_slots.specs.Pile.{slot_of}
use Rattle.mc_entities.specs.declared.entity.Entity.{Entity}
use Rattle.mc_entities.specs.declared.entity.EntityKind.{EntityKind}
use Rattle.mc_entities.specs.declared.entity.EntityKind.TheVariants.{Player, Dropped, Mob}
use Rattle.mc_packets.specs.declared.down.Down.{Down}
use Rattle.mc_view.specs.declared.view_set.ViewSet.{ViewSet}
use Rattle.mc_view.specs.Sets.{has}
use Rattle.mc_view.specs.Told.{Told}
use Rattle.mc_view.specs.Views.{column_of_spot}
use Rattle.mc_model.specs.declared.seen.SeenKind.{SeenKind}
use Rattle.mc_model.specs.declared.seen.SeenKind.TheVariants as seen_kinds
use Rattle.mc_model.specs.Sight.{Seen, seen_of}
use Rattle.mc_model.specs.Ticks.{beat_at, shown_age}
use Rattle.mc_model.specs.Delta.{entity_packets}
use Rattle.mc_told.specs.declared.row.Row.{Row}

-- the beat and the age that a client is told at an age
abbrev pub beat_now : ℕ → Option ℤ
beat_now age = Some (pos (beat_at age))

abbrev pub age_now : ℕ → Option ℤ
age_now age = Some (pos (shown_age age))

-- the entities that stand in a view
abbrev pub is_in : ViewSet → Entity → Bool
is_in view e = has view (column_of_spot e.spot)

abbrev pub in_view : ViewSet → List Entity → List Entity
in_view view entities = filter (is_in view) entities

-- an entity of a kind of which a client was told
abbrev pub told_as : SeenKind → Spot × Pile → Seen
told_as kind told =
    record { kind = kind; spot = told.0; head = told.0.yaw; pile = slot_of told.1 }

-- of an entity that was seen, what is kept of it: where it was, and the pile that it held or was
abbrev pub kept_of : Seen → Spot × Slot
kept_of e = (e.spot, e.pile)

-- and of what was told
abbrev pub told_slot : Spot × Pile → Spot × Slot
told_slot told = (told.0, slot_of told.1)

-- the entities that are to be shown, of those that may be
abbrev pub shown_now : List Entity → ViewSet → FinMap int_cmp Seen
shown_now entities view = from_entries (map seen_of (in_view view entities))

-- the numbers of those that a client was told of and that it is to be shown no more
abbrev pub gone_from : Told → List Entity → ViewSet → List ℤ
gone_from told entities view =
    filter (λ (eid : ℤ). not (contains_key (shown_now entities view) eid)) (keys told)

-- an entity that is shown, told to a client that was told this of it
abbrev pub packets_of : Told → ℤ × Seen → List Down
packets_of told e =
    entity_packets e.0 (option_map (told_as e.1.kind) (get told e.0)) e.1

-- in rising number
abbrev pub entity_frames : Told → List Entity → ViewSet → List Down
entity_frames told entities view =
    flat_map (packets_of told) (map seen_of (in_view view entities))

-- what an entity is, as clients are shown it
abbrev pub kind_of : EntityKind → SeenKind
kind_of (Player uuid held) = seen_kinds.Player uuid
kind_of (Dropped item born) = seen_kinds.Dropped
kind_of Mob = seen_kinds.Mob

-- the pile that it holds or is; a mob has none
abbrev pub pile_of : EntityKind → Pile
pile_of (Player uuid held) = held
pile_of (Dropped item born) = Full item
pile_of Mob = Empty

-- a row of an entity, as clients are shown it
abbrev pub entity_row : Entity → Row
entity_row e =
    record { eid = e.eid; kind = kind_of e.kind; spot = e.spot; pile = pile_of e.kind }

-- of those that stand in a view
abbrev pub rows_in : ViewSet → List Entity → List Row
rows_in view entities = map entity_row (in_view view entities)

-- what is kept of a row
abbrev pub told_row : Row → ℤ × (Spot × Pile)
told_row row = (row.eid, (row.spot, row.pile))

-- what is told once all of them were told
abbrev pub told_now : List Entity → ViewSet → Told
told_now entities view = from_entries (map told_row (rows_in view entities))

-- with one more, and with more
abbrev pub with_row : Told → Row → Told
with_row told row = insert told row.eid (row.spot, row.pile)

abbrev pub with_rows : Told → List Row → Told
with_rows told rows = fold with_row told rows

-- a row as it is shown, and its packets to a client that was told of some
abbrev pub seen_row : Row → ℤ × Seen
seen_row row = (row.eid, told_as row.kind (row.spot, row.pile))

abbrev pub row_packets : Told → Row → List Down
row_packets told row = packets_of told (seen_row row)

abbrev pub rows_packets : Told → List Row → List Down
rows_packets told rows = flat_map (row_packets told) rows
