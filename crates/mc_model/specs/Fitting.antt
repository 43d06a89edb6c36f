-- What is in a game so that packets can tell it: the states of cells, and entities of which each
-- has a place, a kind that is its own for good, and what the world holds. Rules of this project.
use Rattle.std.specs.Prelude.{◌≡◌, ◌⊎◌, ◌<◌, ◌≤◌, ◌^◌, ℕ, List, Some, unsigned_abs}
use Rattle.std.specs.List.{AllByRecursion}
use Rattle.std.specs.FinMap.{FinMap, get}
use lib.IntN.{ℤ, pos}
use lib.Signed.{◌≤ℤ◌}
use Rattle.mc_fields.specs.declared.position.Spot.{Spot}
use Rattle.mc_land.specs.Places.{Key, key_cmp}
use Rattle.mc_entities.specs.declared.entity.Entity.{Entity}
use Rattle.mc_entities.specs.declared.entity.EntityKind.{EntityKind}
use Rattle.mc_entities.specs.declared.entity.EntityKind.TheVariants as kinds
use Rattle.mc_entities.specs.declared.entity.TheConstants.{DROPPED_MAX, EID_MAX}
use Rattle.mc_entities.specs.Folk.{dropped_in}
use Rattle.mc_entities.specs.Kinds.{IsKind}
use Rattle.mc_model.specs.declared.seen.SeenKind.{SeenKind}
use Rattle.mc_model.specs.declared.seen.SeenKind.TheVariants as seen_kinds
use Rattle.mc_model.specs.Game.{Game}

-- ---- entities

-- where an entity is: a dropped item may lie half a block out of the range of players
pub record SpotFits (spot : Spot) : Type 0 where
  pub x : unsigned_abs spot.x ≤ 960000016
  pub y : unsigned_abs spot.y ≤ 131072
  pub z : unsigned_abs spot.z ≤ 960000016
  pub yaw : spot.yaw < 256
  pub pitch : spot.pitch < 256

-- a player has an identifier of 128 bits
abbrev pub KindIsNamed : EntityKind → Type 0
KindIsNamed (kinds.Player uuid held) = uuid < 2 ^ 128
KindIsNamed (kinds.Dropped item born) = Unit {0}
KindIsNamed kinds.Mob = Unit {0}

-- an entity of a number that was given, with what the world holds
pub record EntityFits (e : Entity) : Type 0 where
  pub low : pos 1 ≤ℤ e.eid
  pub high : e.eid ≤ℤ pos 2147483647
  pub spot : SpotFits e.spot
  pub kind : IsKind e.kind
  pub named : KindIsNamed e.kind

-- ---- kinds

-- what clients see an entity as
abbrev pub kind_seen : EntityKind → SeenKind
kind_seen (kinds.Player uuid held) = seen_kinds.Player uuid
kind_seen (kinds.Dropped item born) = seen_kinds.Dropped
kind_seen kinds.Mob = seen_kinds.Mob

-- how many numbers were given, and what clients see the entity of each as
pub record GivenKinds : Type 0 where
  pub given : ℕ
  pub kind_at : ℤ → SeenKind

-- an entity of a number that was given then, and of its kind
abbrev pub HasKind : GivenKinds → Entity → Type 0
HasKind old e = (e.eid ≤ℤ pos old.given) × (kind_seen e.kind ≡ old.kind_at e.eid)

-- all entities are known
pub record HaveKinds (given : ℕ) (all : List Entity) : Type 0 where
  pub kind_at : ℤ → SeenKind
  pub entities : AllByRecursion (HasKind (record { given = given; kind_at = kind_at })) all

-- ---- cells

-- a state of 12 bits, of air or of an id from 1 on
pub record IsState (state : ℕ) : Type 0 where
  pub small : state < 4096
  pub whole : (state ≡ 0) ⊎ (16 ≤ state)

-- ---- all of it

pub record AreTold (edits : FinMap key_cmp ℕ) (entities : List Entity) (eids : ℕ) : Type 0 where
  pub states : (key : Key) (state : ℕ) → get edits key ≡ Some state → IsState state
  pub fits : AllByRecursion EntityFits entities
  pub kinds : HaveKinds eids entities
  pub lying : dropped_in entities ≤ DROPPED_MAX
  pub few : eids ≤ EID_MAX

abbrev pub Told : Game → Type 0
Told g = AreTold g.edits g.entities g.eids
