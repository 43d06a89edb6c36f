-- How a folk is kept: its lists, the numbers given, and a count of the dropped items.
use Rattle.std.specs.Prelude.{◌≡◌, ◌≤◌, ◌<◌, ℕ, ◌-◌, Bool, List, length, min, Some}
use Rattle.std.specs.Prelude.{slice_index_or, if◌then◌else◌}
use Rattle.std.specs.List.{All}
use lib.IntN.{ℤ, pos}
use Rattle.mc_fields.specs.declared.position.Spot.{Spot}
use Rattle.mc_entities.specs.declared.entity.Entity.{Entity}
use Rattle.mc_entities.specs.declared.entity.TheConstants.{DROPPED_MAX, EID_MAX}
use Rattle.mc_entities.specs.Kinds.{IsKind}
use Rattle.mc_entities.specs.Numbers.{Rise, numbered}
use Rattle.mc_entities.specs.Folk.{dropped_in, eid_of, told_eid}

-- for how many more there are places, where two lists have so many in all
abbrev pub places : List Entity → ℕ → ℕ → ℕ
places entities most told_most = min most told_most - length entities

-- what is held and what lies there is in range
abbrev pub AreKinds : List Entity → Type 0
AreKinds entities = All (λ (e : Entity). IsKind e.kind) entities

pub record IsKept (entities : List Entity) (told : List (ℤ × Spot)) (told_most given dropped : ℕ)
    : Type 0 where
  pub rise : Rise eid_of (pos 0) entities (pos given)
  pub told_rise : Rise told_eid (pos 0) told (pos given)
  pub kinds : AreKinds entities
  pub numbers : given ≤ EID_MAX
  pub counted : dropped ≡ dropped_in entities
  pub few : dropped ≤ DROPPED_MAX
  pub places : length entities ≤ told_most

-- ---- where an element stands, by its number

abbrev pub Rises : {X : Type 0} → (X → ℤ) → List X → Type 0
Rises number xs = (high : ℤ) × Rise number (pos 0) xs high

-- the element of a number stands at a place
pub record IsPlaced {X : Type 0} (number : X → ℤ) (n : ℤ) (i : ℕ) (xs : List X) : Type 0 where
  pub within : i < length xs
  pub is : (other : X) → numbered number n xs ≡ Some (slice_index_or xs i other)
  pub named : (other : X) → number (slice_index_or xs i other) ≡ n

-- one for a dropped item
abbrev pub one_if : Bool → ℕ
one_if b = if b then 1 else 0
