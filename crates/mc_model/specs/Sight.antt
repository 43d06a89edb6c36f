-- What a client can see: the one type of what the server shows to it and of what its replica holds.
use Rattle.std.specs.Prelude.{ℕ, List, [], map, option_map, replicate, Option, None}
use Rattle.std.specs.Ordering.{nat_cmp, int_cmp}
use Rattle.std.specs.FinMap.{FinMap, empty}
use lib.IntN.{ℤ}
use Rattle.mc_fields.specs.declared.position.Spot.{Spot}
use Rattle.mc_slots.specs.declared.slot.Slot.{Slot}
use Rattle.mc_slots.specs.declared.slot.Slot.TheVariants as slots
use Rattle.mc_slots.specs.declared.pile.Pile.{Pile}
use Rattle.mc_slots.specs.declared.pile.Pile.TheVariants.{Full}
use Rattle.mc_slots.specs.Pile.{slot_of}
use Rattle.mc_column.specs.Cells.{ColumnValue}
use Rattle.mc_land.specs.Places.{place_cmp}
use Rattle.mc_windows.specs.Pack.{PackValue, pack_size}
use Rattle.mc_entities.specs.declared.entity.Entity.{Entity}
use Rattle.mc_entities.specs.declared.entity.EntityKind.{EntityKind}
use Rattle.mc_entities.specs.declared.entity.EntityKind.TheVariants as kinds
use Rattle.mc_entities.specs.Numbers.{without}
use Rattle.mc_entities.specs.Folk.{eid_of}
use Rattle.mc_model.specs.declared.seen.SeenKind.{SeenKind}
use Rattle.mc_model.specs.declared.seen.SeenKind.TheVariants as seen_kinds

-- an entity: what it is, where it is and looks, where its head looks, and the pile that it holds or
-- is
pub record Seen : Type 0 where
  pub kind : SeenKind
  pub spot : Spot
  pub head : ℕ
  pub pile : Slot

-- the window of a chest: its number, and what lies in the chest
pub record ChestWindow : Type 0 where
  pub number : ℕ
  pub slots : List Slot

pub record Sight : Type 0 where
  -- the beat and the age that it was told last
  pub beat : Option ℤ
  pub age : Option ℤ
  -- the list of players: each one's name, by its identifier
  pub pairs : FinMap nat_cmp (List ℕ)
  -- the columns in view, with states and biomes
  pub columns : FinMap place_cmp ColumnValue
  -- the entities in view but its own, by their numbers
  pub entities : FinMap int_cmp Seen
  -- the window of the chest that it is shown, if it is shown one
  pub window : Option ChestWindow
  -- the slots of the own pack
  pub pack : List Slot
  -- what hangs on the own cursor
  pub cursor : Slot
  -- what was said, as texts
  pub chat : List (List ℕ)

abbrev pub nothing_seen : Sight
nothing_seen = record {
  beat = None;
  age = None;
  pairs = empty;
  columns = empty;
  entities = empty;
  window = None;
  pack = replicate pack_size slots.Empty;
  cursor = slots.Empty;
  chat = [];
}

-- all entities but the one of a number
abbrev pub others : ℤ → List Entity → List Entity
others eid entities = without eid_of eid entities

-- an entity as it is seen; a mob has no pile
abbrev pub seen_as : Entity → EntityKind → ℤ × Seen
seen_as e (kinds.Player uuid held) = (
  e.eid,
  record { kind = seen_kinds.Player uuid; spot = e.spot; head = e.spot.yaw; pile = slot_of held },
)
seen_as e (kinds.Dropped item born) = (
  e.eid,
  record {
    kind = seen_kinds.Dropped;
    spot = e.spot;
    head = e.spot.yaw;
    pile = slot_of (Full item);
  },
)
seen_as e kinds.Mob = (
  e.eid,
  record { kind = seen_kinds.Mob; spot = e.spot; head = e.spot.yaw; pile = slots.Empty },
)

abbrev pub seen_of : Entity → ℤ × Seen
seen_of e = seen_as e e.kind

-- the window of a chest with these piles, of the number that a pack has for it
abbrev pub window_seen : PackValue → Option (List Pile) → Option ChestWindow
window_seen pack chest = option_map (λ (piles : List Pile). record {
  number = pack.window;
  slots = map slot_of piles;
}) chest
