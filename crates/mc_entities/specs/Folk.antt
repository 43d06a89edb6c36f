-- The entities of a world by their numbers (rules of this project).
use Rattle.std.specs.Prelude.{◌≤◌, ℕ, ◌+◌, ◌-◌, ◌==◌, Bool, ◌&&◌, List, [], ◌∷◌, ◌++◌, map}
use Rattle.std.specs.Prelude.{length, min, Option, option_map, int_lt, if◌then◌else◌}
use Rattle.std.specs.List.{filter}
use lib.IntN.{ℤ, pos}
use Rattle.mc_fields.specs.declared.position.Spot.{Spot}
use Rattle.mc_entities.specs.declared.entity.Entity.{Entity}
use Rattle.mc_entities.specs.declared.entity.EntityKind.{EntityKind}
use Rattle.mc_entities.specs.declared.entity.TheConstants.{DROPPED_MAX, EID_MAX}
use Rattle.mc_entities.specs.declared.mind.Move.{Move}
use Rattle.mc_entities.specs.Kinds.{is_dropped, is_mob}
use Rattle.mc_entities.specs.Numbers.{numbered, changed, without, without_all}
use Rattle.mc_entities.specs.Shift.{shifted_spot}
use Rattle.mc_entities.specs.Plans.{move_at}

-- the entities by rising number; the spots that the last settling kept and that were not taken out
-- since, by number; and how many numbers were given: 1 up to this one
pub record FolkState : Type 0 where
  pub entities : List Entity
  pub told : List (ℤ × Spot)
  pub given : ℕ

-- beside that, for how many more entities there are places
pub record FolkValue : Type 0 where
  pub state : FolkState
  pub reserve : ℕ

abbrev pub eid_of : Entity → ℤ
eid_of e = e.eid

abbrev pub told_eid : ℤ × Spot → ℤ
told_eid row = row.0

-- ---- what there is

abbrev pub entity_of : ℤ → FolkState → Option Entity
entity_of eid state = numbered eid_of eid state.entities

-- the spot that the last settling kept under a number, where that is still kept
abbrev pub told_of : ℤ → FolkState → Option Spot
told_of eid state = option_map (λ row. row.1) (numbered told_eid eid state.told)

abbrev pub dropped_in : List Entity → ℕ
dropped_in entities = length (filter (λ (e : Entity). is_dropped e.kind) entities)

abbrev pub mobs_in : List Entity → ℕ
mobs_in entities = length (filter (λ (e : Entity). is_mob e.kind) entities)

-- ---- how many more there may be

-- an entity of the kind would be a dropped item too many
abbrev pub is_full : EntityKind → FolkState → Bool
is_full kind state = is_dropped kind && (dropped_in state.entities == DROPPED_MAX)

-- all numbers were given
abbrev pub is_spent : FolkState → Bool
is_spent state = state.given == EID_MAX

-- how many more dropped items may be added
abbrev pub room_of : FolkState → ℕ
room_of state = min (DROPPED_MAX - dropped_in state.entities) (EID_MAX - state.given)

-- n more dropped items may be added, and have their places
pub record HasRoom (n : ℕ) (folk : FolkValue) : Type 0 where
  pub room : n ≤ room_of folk.state
  pub places : n ≤ folk.reserve

-- ---- what changes

abbrev pub new_state : FolkState
new_state = record { entities = []; told = []; given = 0 }

-- one more entity, which has the next number
abbrev pub spawned : EntityKind → Spot → FolkState → FolkState
spawned kind spot state = record state {
  entities =
      state.entities ++ record { eid = pos (state.given + 1); kind = kind; spot = spot } ∷ [];
  given = state.given + 1;
}

abbrev pub removed : ℤ → FolkState → FolkState
removed eid state = record state {
  entities = without eid_of eid state.entities;
  told = without told_eid eid state.told;
}

-- those of some numbers
abbrev pub removed_all : List ℤ → FolkState → FolkState
removed_all eids state = record state {
  entities = without_all eid_of eids state.entities;
  told = without_all told_eid eids state.told;
}

abbrev pub with_entity : ℤ → (Entity → Entity) → FolkState → FolkState
with_entity eid f state = record state { entities = changed eid_of eid f state.entities }

abbrev pub placed : ℤ → Spot → FolkState → FolkState
placed eid spot state = with_entity eid (λ e. record e { spot = spot }) state

abbrev pub with_kind : ℤ → EntityKind → FolkState → FolkState
with_kind eid kind state = with_entity eid (λ e. record e { kind = kind }) state

-- an entity moved, but where it would leave the range
abbrev pub stepped : Move → Entity → Entity
stepped by e = record e { spot = shifted_spot by e.spot }

abbrev pub shifted : ℤ → Move → FolkState → FolkState
shifted eid by state = with_entity eid (stepped by) state

-- everyone was told where each entity is
abbrev pub settled : FolkState → FolkState
settled state = record state { told = map (λ (e : Entity). (e.eid, e.spot)) state.entities }

-- ---- mobs that move

-- how many mobs have a lower number
abbrev pub rank : List Entity → ℤ → ℕ
rank entities eid =
    length (filter (λ (e : Entity). is_mob e.kind && int_lt e.eid eid) entities)

-- a mob after the first move of the i-th plan; others as they are
abbrev pub moved_by : List (List Move) → ℕ → Entity → Entity
moved_by plans i e = if is_mob e.kind then stepped (move_at plans i) e else e

-- a mob after the first move of the plan of its rank
abbrev pub after_tick : List (List Move) → List Entity → Entity → Entity
after_tick plans entities e = moved_by plans (rank entities e.eid) e

abbrev pub ticked : List (List Move) → FolkState → FolkState
ticked plans state = record state {
  entities = map (after_tick plans state.entities) state.entities;
}
