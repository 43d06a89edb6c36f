use Rattle.std.proofs.Common.{ap, subst, w32}
use Rattle.std.specs.Prelude.{◌≡◌, None}
use Rattle.std.proofs.lemmas.Int.{to_z-of_z}
use Rattle.mc_entities.specs.Numbers.{without}
use Rattle.mc_entities.specs.Kept.{IsPlaced}
use Rattle.mc_entities.specs.Folk.{FolkValue, entity_of, eid_of, told_eid}
use Rattle.mc_entities.proofs.KeptFacts.{counted_one, kept_forgotten, kept_without}
use Rattle.mc_entities.proofs.KeptFacts.{forgotten_state, removed_state}
use Rattle.mc_entities.proofs.folk.Folk.remove.Goals as goal

pub invariant_of-self : goal.invariant_of-self
invariant_of-self c =
    kept_forgotten c.self.inside.entities.items _ _ _ _ _ _ c.args.eid c.self.invariant
    (subst (λ n. c.forget.new.told.items ≡ without told_eid n c.self.inside.told.items)
    (to_z-of_z w32 c.args.eid c.ranges.eid) c.forget.ensures.rows) c.forget.ensures.capacity

pub returns-in_default-clause-state : goal.returns-in_default-clause-state
returns-in_default-clause-state c =
    forgotten_state c.args.self.now _ c.args.eid _ (ap (λ (w : FolkValue). w.state) c.self.view_is)
    (subst (λ n. entity_of n c.args.self.now.state ≡ None) (to_z-of_z w32 c.args.eid c.ranges.eid)
    (c.place_of-place.ensures.none c.in_default.is))
    (subst (λ n. c.forget.new.told.items ≡ without told_eid n c.self.inside.told.items)
    (to_z-of_z w32 c.args.eid c.ranges.eid) c.forget.ensures.rows)

pub overflow_sub-self : goal.overflow_sub-self
overflow_sub-self c =
    counted_one c.args.self.now c.self.inside.entities.items _ _ _ _ c.in-Some.at _ c.args.eid
    c.remove-gone.result (ap (λ (w : FolkValue). w.state.entities) c.self.view_is) c.self.invariant
    (subst (λ n. IsPlaced eid_of n c.in-Some.at c.args.self.now.state.entities)
    (to_z-of_z w32 c.args.eid c.ranges.eid) c.in-Some.ensures.some)
    c.remove-gone.ensures.value c.dropped_count.ensures

pub invariant_of-self-2 : goal.invariant_of-self-2
invariant_of-self-2 c =
    kept_without c.args.self.now
    c.self.inside.entities.items _ _ _ _ _ _ _ c.in-Some.at _ c.args.eid c.remove-gone.result
    (ap (λ (w : FolkValue). w.state.entities) c.self.view_is) c.self.invariant
    (subst (λ n. IsPlaced eid_of n c.in-Some.at c.args.self.now.state.entities)
    (to_z-of_z w32 c.args.eid c.ranges.eid) c.in-Some.ensures.some)
    c.remove-gone.ensures.value c.dropped_count.ensures c.remove-gone.ensures.items
    (subst (λ n. c.forget.new.told.items ≡ without told_eid n c.self.inside.told.items)
    (to_z-of_z w32 c.args.eid c.ranges.eid) c.forget.ensures.rows) c.forget.ensures.capacity

pub returns-clause-state : goal.returns-clause-state
returns-clause-state c =
    removed_state c.args.self.now _ _ c.args.eid c.in-Some.at c.remove-gone.result _ _
    (ap (λ (w : FolkValue). w.state) c.self.view_is) c.self.invariant.rise
    (subst (λ n. IsPlaced eid_of n c.in-Some.at c.args.self.now.state.entities)
    (to_z-of_z w32 c.args.eid c.ranges.eid) c.in-Some.ensures.some) c.remove-gone.ensures.items
    (subst (λ n. c.forget.new.told.items ≡ without told_eid n c.self.inside.told.items)
    (to_z-of_z w32 c.args.eid c.ranges.eid) c.forget.ensures.rows)
