use Rattle.std.proofs.Common.{ap, refl, subst, w32}
use Rattle.std.proofs.lemmas.Int.{to_z-of_z}
use Rattle.mc_entities.specs.declared.entity.Entity.{Entity}
use Rattle.std.specs.Prelude.{◌≡◌, None}
use Rattle.mc_entities.specs.Kept.{IsPlaced}
use Rattle.mc_entities.specs.Folk.{FolkValue, entity_of, eid_of}
use Rattle.mc_entities.proofs.KeptFacts.{absent_state, changed_state, kept_changed}
use Rattle.mc_entities.proofs.folk.Folk.place.Goals as goal

pub returns-in_default-clause-state : goal.returns-in_default-clause-state
returns-in_default-clause-state c = absent_state c.args.eid
    (λ (e : Entity). record e { spot = c.args.spot }) c.args.self.now.state
    (subst (λ n. entity_of n c.args.self.now.state ≡ None) (to_z-of_z w32 c.args.eid c.ranges.eid)
    (c.place_of.ensures.none c.in_default.is))

pub invariant_of-self : goal.invariant_of-self
invariant_of-self c =
    kept_changed c.args.self.now
    c.self.inside.entities.items _ _ _ _ c.in-Some.at c.args.eid c.index_mut.result.now _
    (ap (λ (w : FolkValue). w.state.entities) c.self.view_is) c.self.invariant
    (subst (λ n. IsPlaced eid_of n c.in-Some.at c.args.self.now.state.entities)
    (to_z-of_z w32 c.args.eid c.ranges.eid) c.in-Some.ensures.some) c.index_mut.ensures.value refl
    (λ k. k) refl

pub returns-clause-state : goal.returns-clause-state
returns-clause-state c =
    changed_state c.args.self.now _ _ c.args.eid
    (λ (e : Entity). record e { spot = c.args.spot }) c.in-Some.at c.index_mut.result.now _
    (ap (λ (w : FolkValue). w.state) c.self.view_is) c.self.invariant.rise
    (subst (λ n. IsPlaced eid_of n c.in-Some.at c.args.self.now.state.entities)
    (to_z-of_z w32 c.args.eid c.ranges.eid) c.in-Some.ensures.some) c.index_mut.ensures.value refl
