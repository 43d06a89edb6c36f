-- What is encoded of entities once for all clients of a tick: the frames that tell the move of each
-- that was told at the last settling, and those that show each that some client may not know.
use Rattle.std.specs.Prelude.{◌≡◌, ◌&&◌, ◌||◌, not, ℕ, Bool, true, false, List, Option, Some, None, nat_eq}
use Rattle.std.specs.Prelude.{if◌then◌else◌, refl}
use Rattle.std.specs.Coded.{Coded, code_by, coded×, coded_ℕ, coded_ℤ, coded_list}
use Rattle.std.specs.Ordering.{int_cmp, int_eq}
use Rattle.std.specs.FinMap.{FinMap, code, empty, get, insert}
use lib.IntN.{ℤ}
use Rattle.mc_fields.specs.declared.position.Spot.{Spot}
use Rattle.mc_slots.specs.declared.pile.Pile.{Pile}
use Rattle.mc_slots.specs.declared.pile.Pile.TheVariants as piles
use Rattle.mc_slots.specs.Pile.{slot_of}
use Rattle.mc_entities.specs.declared.entity.Entity.{Entity}
use Rattle.mc_entities.specs.Folk.{FolkState, told_of}
use Rattle.mc_view.specs.declared.forms.Form.{Form}
use Rattle.mc_view.specs.declared.forms.Form.TheVariants.{Still}
use Rattle.mc_view.specs.Forms.{form_of, moves_of}
use Rattle.mc_view.specs.ToldCode.{coded_spot}
use Rattle.mc_view.specs.Views.{column_of_spot}
use Rattle.mc_model.specs.declared.seen.SeenKind.{SeenKind}
use Rattle.mc_model.specs.declared.seen.SeenKind.TheVariants.{Player, Dropped, Mob}
use Rattle.mc_model.specs.Delta.{moves_packets, spawn_as}
use Rattle.mc_sending.specs.Sending.{play_bytes}
use Rattle.mc_told.specs.declared.row.Row.{Row}
use Rattle.mc_told.specs.declared.moved.Moved.{Moved}
use Rattle.mc_told.specs.declared.spawned.Spawned.{Spawned}
use Rattle.mc_told.specs.RowCode.{coded_row}
use Rattle.mc_told.specs.Telling.{entity_row}

pub record EntitiesValue : Type 0 where
  -- by number, each entity's move since the last settling
  pub moves : FinMap int_cmp Moved
  -- by number, what shows each entity that some client may not know
  pub spawns : FinMap int_cmp Spawned

abbrev pub coded_moved : Coded Moved
coded_moved =
    code_by (Spot × (Spot × List ℕ))
    (coded× coded_spot (coded× coded_spot (coded_list coded_ℕ)))
    (λ moved. (moved.from, (moved.to, moved.frames)))
    (λ parts. record { from = parts.0; to = parts.1.0; frames = parts.1.1 })
    (λ moved. refl)

abbrev pub coded_spawned : Coded Spawned
coded_spawned =
    code_by (Row × List ℕ) (coded× coded_row (coded_list coded_ℕ))
    (λ spawned. (spawned.row, spawned.frames))
    (λ parts. record { row = parts.0; frames = parts.1 })
    (λ spawned. refl)

abbrev pub coded_entities : Coded EntitiesValue
coded_entities =
    code_by (FinMap int_cmp Moved × FinMap int_cmp Spawned)
    (coded× (code coded_ℤ coded_moved) (code coded_ℤ coded_spawned))
    (λ encoded. (encoded.moves, encoded.spawns))
    (λ parts. record { moves = parts.0; spawns = parts.1 })
    (λ encoded. refl)

abbrev pub no_entities : EntitiesValue
no_entities = record { moves = empty; spawns = empty }

-- ---- what is encoded

-- the frames that tell a client that an entity moved from one spot to another
abbrev pub move_bytes : ℤ → Spot → Spot → List ℕ
move_bytes eid from to = play_bytes (moves_packets eid to (moves_of from to))

-- the frames that show an entity to a client that does not know it
abbrev pub spawn_bytes : Row → List ℕ
spawn_bytes row = play_bytes (spawn_as row.eid row.kind row.spot (slot_of row.pile))

-- what was encoded are the frames of the moves and of the entities beside which it is kept
pub record AreEncoded (encoded : EntitiesValue) : Type 0 where
  pub moves : (eid : ℤ) (moved : Moved) → get encoded.moves eid ≡ Some moved →
      moved.frames ≡ move_bytes eid moved.from moved.to
  pub spawns : (eid : ℤ) (spawned : Spawned) → get encoded.spawns eid ≡ Some spawned →
      spawned.frames ≡ spawn_bytes spawned.row

-- ---- what is added

abbrev pub is_still : Form → Bool
is_still Still = true
is_still other = false

abbrev pub move_of : Spot → Entity → Moved
move_of from e = record { from = from; to = e.spot; frames = move_bytes e.eid from e.spot }

-- the move of an entity from a spot, unless it is there still
abbrev pub with_move : EntitiesValue → Spot → Entity → EntitiesValue
with_move encoded from e = if is_still (form_of from e.spot) then encoded else
    record encoded { moves = insert encoded.moves e.eid (move_of from e) }

abbrev pub spawn_of : Entity → Spawned
spawn_of e = record { row = entity_row e; frames = spawn_bytes (entity_row e) }

-- what shows an entity
abbrev pub with_spawn : EntitiesValue → Entity → EntitiesValue
with_spawn encoded e = record encoded { spawns = insert encoded.spawns e.eid (spawn_of e) }

-- what stands at one spot is in another column than what stands at the other
abbrev pub has_crossed : Spot → Spot → Bool
has_crossed from to = not (int_eq (column_of_spot from).0 (column_of_spot to).0)
    || not (int_eq (column_of_spot from).1 (column_of_spot to).1)

-- an entity that was at a spot at the last settling: its move, and, where it or its column is new to
-- some client, what shows it
abbrev pub with_known : Spot → Bool → EntitiesValue → Entity → EntitiesValue
with_known from comes encoded e = if comes || has_crossed from e.spot then
    with_spawn (with_move encoded from e) e else with_move encoded from e

-- or that came since
abbrev pub with_told : Option Spot → Bool → EntitiesValue → Entity → EntitiesValue
with_told (Some from) comes encoded e = with_known from comes encoded e
with_told None comes encoded e = with_spawn encoded e

-- an entity of which is said whether its column comes into the view of some client
abbrev pub with_frames_of : FolkState → Bool → EntitiesValue → Entity → EntitiesValue
with_frames_of state comes encoded e = with_told (told_of e.eid state) comes encoded e

-- ---- what is found

abbrev pub is_same_spot : Spot → Spot → Bool
is_same_spot a b = int_eq a.x b.x && (int_eq a.y b.y && (int_eq a.z b.z
    && (nat_eq a.yaw b.yaw && nat_eq a.pitch b.pitch)))

abbrev pub is_move : Spot → Spot → Moved → Bool
is_move from to moved = is_same_spot moved.from from && is_same_spot moved.to to

abbrev pub frames_of_move : Spot → Spot → Option Moved → Option (List ℕ)
frames_of_move from to None = None
frames_of_move from to (Some moved) = if is_move from to moved then Some moved.frames else None

-- the frames of an entity's move from one spot to another, where that was encoded
abbrev pub found_move : EntitiesValue → ℤ → Spot → Spot → Option (List ℕ)
found_move encoded eid from to = frames_of_move from to (get encoded.moves eid)

abbrev pub is_same_kind : SeenKind → SeenKind → Bool
is_same_kind (Player uuid) (Player other) = nat_eq uuid other
is_same_kind Dropped Dropped = true
is_same_kind Mob Mob = true
is_same_kind _ _ = false

abbrev pub is_same_pile : Pile → Pile → Bool
is_same_pile piles.Empty piles.Empty = true
is_same_pile (piles.Full a) (piles.Full b) =
    int_eq a.id b.id && (int_eq a.damage b.damage && nat_eq a.count b.count)
is_same_pile _ _ = false

abbrev pub is_same_row : Row → Row → Bool
is_same_row a b = int_eq a.eid b.eid
    && (is_same_kind a.kind b.kind && (is_same_spot a.spot b.spot && is_same_pile a.pile b.pile))

abbrev pub frames_of_row : Row → Option Spawned → Option (List ℕ)
frames_of_row row None = None
frames_of_row row (Some spawned) = if is_same_row spawned.row row then Some spawned.frames else None

-- the frames that show an entity as a row has it, where those were encoded
abbrev pub found_spawn : EntitiesValue → Row → Option (List ℕ)
found_spawn encoded row = frames_of_row row (get encoded.spawns row.eid)
