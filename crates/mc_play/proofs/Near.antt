-- Each entity stands where a column can be shown: whatever becomes of the entities keeps that.
use Rattle.std.proofs.Common.{◌≡◌, true, List, [], ◌∷◌, ℤ, arith, false, refl}
use Rattle.std.specs.Prelude.{Bool, Some, if◌then◌else◌}
use Rattle.std.proofs.lemmas.Bool.Decides.{nat_tests}
use Rattle.std.proofs.lemmas.Int.{ints}
use Rattle.std.specs.Ordering.{int_eq}
use Rattle.mc_fields.specs.declared.position.Spot.{Spot}
use Rattle.mc_entities.specs.declared.entity.Entity.{Entity}
use Rattle.mc_entities.specs.declared.entity.EntityKind.{EntityKind}
use Rattle.mc_entities.specs.declared.mind.Move.{Move}
use Rattle.mc_entities.specs.Kinds.{is_mob}
use Rattle.mc_entities.specs.Numbers.{numbered}
use Rattle.mc_entities.specs.Folk.{FolkState, after_tick, eid_of, placed, rank, removed}
use Rattle.mc_entities.specs.Folk.{removed_all}
use Rattle.mc_entities.specs.Folk.{stepped, ticked, with_kind}
use Rattle.mc_entities.specs.Plans.{move_at}
use Rattle.mc_entities.specs.Shift.{added, is_inside, shifted_spot}
use Rattle.mc_model.proofs.AllFacts.{all_filtered, all_mapped}
use Rattle.mc_play.specs.Kept.{AreNear, IsNear}

-- one less
pub removed_near : (eid : ℤ) (state : FolkState) → AreNear state.entities →
    AreNear (removed eid state).entities
removed_near eid state = grind (arith, nat_tests, all_filtered)

pub all_removed_near : (eids : List ℤ) (state : FolkState) → AreNear state.entities →
    AreNear (removed_all eids state).entities
all_removed_near eids state = grind (arith, nat_tests, all_filtered)

-- one that is put at such a spot
pub placed_near : (eid : ℤ) (spot : Spot) (state : FolkState) → IsNear spot →
    AreNear state.entities → AreNear (placed eid spot state).entities
placed_near eid spot state there =
    all_mapped (λ (e : Entity). IsNear e.spot) (λ (e : Entity). IsNear e.spot)
    (λ (e : Entity). if int_eq (eid_of e) eid then record e { spot = spot } else e)
    (λ e is. elim (int_eq (eid_of e) eid)
    as (λ b. IsNear (if b then record e { spot = spot } else e).spot)
    [ true ↦ there | false ↦ is ]) state.entities

-- one that is something else
pub kind_near : (eid : ℤ) (kind : EntityKind) (state : FolkState) →
    AreNear state.entities → AreNear (with_kind eid kind state).entities
kind_near eid kind state =
    all_mapped (λ (e : Entity). IsNear e.spot) (λ (e : Entity). IsNear e.spot)
    (λ (e : Entity). if int_eq (eid_of e) eid then record e { kind = kind } else e)
    (λ e is. elim (int_eq (eid_of e) eid)
    as (λ b. IsNear (if b then record e { kind = kind } else e).spot)
    [ true ↦ is | false ↦ is ]) state.entities

-- the one of a number
pub numbered_near : (eid : ℤ) (entities : List Entity) (e : Entity) → AreNear entities →
    numbered eid_of eid entities ≡ Some e → IsNear e.spot
numbered_near eid [] e all is = absurd cc
numbered_near eid (x ∷ entities) e all is =
    grind (arith, nat_tests, numbered_near eid entities e all.1)

-- ---- mobs that move

-- what lies in the range is near
inside_near : (spot : Spot) → is_inside spot ≡ true → IsNear spot
inside_near spot is = grind (arith, nat_tests, ints)

-- a move leaves a spot near
shifted_near : (by : Move) (spot : Spot) → IsNear spot → IsNear (shifted_spot by spot)
shifted_near by spot near = step (is_inside (added by spot)) refl
  where
    step : (b : Bool) → is_inside (added by spot) ≡ b → IsNear (if b then added by spot else spot)
    step true is = inside_near (added by spot) is
    step false is = near

pub ticked_near : (plans : List (List Move)) (state : FolkState) → AreNear state.entities →
    AreNear (ticked plans state).entities
ticked_near plans state =
    all_mapped (λ (e : Entity). IsNear e.spot) (λ (e : Entity). IsNear e.spot)
    (after_tick plans state.entities) (λ e is.
    let i = rank state.entities e.eid in
    elim (is_mob e.kind) as (λ b. IsNear (if b then stepped (move_at plans i) e else e).spot)
    [ true ↦ shifted_near (move_at plans i) e.spot is | false ↦ is ]) state.entities
