use Rattle.mc_view.specs.KeptTold.{IsAt}
use Rattle.std.proofs.lemmas.Int.{to_z-of_z}
use lib.IntN.{ℤ}
use Rattle.std.proofs.Common.{rules, FitsSigned, w32, subst}
use Rattle.mc_view.proofs.TrackerFacts.{no_place}
use Rattle.mc_view.proofs.tracker.gap_for.Goals as goal

pub returns-in-Ok : goal.returns-in-Ok
returns-in-Ok c =
    let fits : FitsSigned w32 c.args.eid = search rules in
    let eid = to_z-of_z w32 c.args.eid fits in
    absurd (no_place c.args.entries.now c.args.eid c.in-Ok.at c.requires.rising c.requires.new
    (subst (λ (k : ℤ). IsAt c.args.entries.now k c.in-Ok.at) eid c.in-Ok.ensures.found))
