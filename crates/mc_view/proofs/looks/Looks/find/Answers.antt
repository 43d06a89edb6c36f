use Rattle.std.proofs.Common.{rules, FitsSigned, w32, subst, sym}
use Rattle.std.proofs.lemmas.Int.{to_z-of_z}
use lib.IntN.{ℤ}
use Rattle.mc_view.specs.KeptTold.{IsAt, IsGap}
use Rattle.mc_view.proofs.TrackerFacts.{got_at, got_gap}
use Rattle.mc_view.proofs.looks.Looks.find.Goals as goal

pub returns-in-Ok-clause-is : goal.returns-in-Ok-clause-is
returns-in-Ok-clause-is c =
    let fits : FitsSigned w32 c.args.eid = search rules in
    let es = c.self.inside.entries.now in
    let is =
    subst (λ (k : ℤ). IsAt es k c.in-Ok.at) (to_z-of_z w32 c.args.eid fits) c.in-Ok.ensures.found in
    rw (← c.self.view_is) (sym (got_at es c.args.eid c.in-Ok.at _ c.self.invariant is))

pub returns-in-Err-clause-is : goal.returns-in-Err-clause-is
returns-in-Err-clause-is c =
    let fits : FitsSigned w32 c.args.eid = search rules in
    let es = c.self.inside.entries.now in
    let gap =
    subst (λ (k : ℤ). IsGap es k c.in-Err.at) (to_z-of_z w32 c.args.eid fits)
    c.in-Err.ensures.absent in
    rw (← c.self.view_is) (sym (got_gap es c.args.eid c.in-Err.at c.self.invariant gap))
