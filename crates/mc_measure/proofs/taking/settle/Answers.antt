use Rattle.std.proofs.Common.{◌≡◌, false, rules, ◌∙◌}
use Rattle.mc_measure.proofs.Owed.{settled_by}
use Rattle.mc_measure.proofs.taking.settle.Goals as goal

pub returns-clause-settled : goal.returns-clause-settled
returns-clause-settled c w st =
    let is = c.in_ok-pending.ensures w st in
    let none : c.is_any_full.result ≡ false = search rules in
    let taken = c.in_ok-count.ensures.taken w st in
    settled_by w c.args.server.now c.forget_all.new.server c.deref.result.now
    c.deref-2.result.now c.deref-3.result.now _ st (c.deref.ensures.value ∙ is)
    (c.deref-2.ensures.value ∙ is) (c.deref-3.ensures.value ∙ is)
    (c.is_any_full.ensures w st none) taken.1 (c.forget_all.ensures.forgotten _ taken.0)
