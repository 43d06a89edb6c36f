use Rattle.std.proofs.Common.{ap, arith, ◌∙◌}
use Rattle.mc_entities.specs.Folk.{dropped_in}
use Rattle.mc_entities.proofs.KeptFacts.{kept_all, places_left}
use Rattle.mc_entities.proofs.folk.Folk.remove_all.Goals as goal

pub overflow_cast-self : goal.overflow_cast-self
overflow_cast-self c =
    let kept = kept_all _ _ _ _ _ _ _ _ _ c.args.eids.now.keys c.self.invariant c.leave_out.ensures.left
    c.forget_all.ensures.rows c.forget_all.ensures.capacity
    (c.dropped_among.ensures ∙ ap dropped_in c.as_slice.ensures.value) in
    omega (arith, kept.few)

pub invariant_of-self : goal.invariant_of-self
invariant_of-self c = kept_all _ _ _ _ _ _ _ _ _ c.args.eids.now.keys c.self.invariant
    c.leave_out.ensures.left c.forget_all.ensures.rows c.forget_all.ensures.capacity
    (c.dropped_among.ensures ∙ ap dropped_in c.as_slice.ensures.value)

pub returns-clause-keeps : goal.returns-clause-keeps
returns-clause-keeps c = rw (← c.self.view_is) (places_left _ _ _ _ _ _ c.args.eids.now.keys
    c.leave_out.ensures.left c.leave_out.ensures.capacity c.forget_all.ensures.capacity)
