use Rattle.mc_view.specs.KeptTold.{IsGap}
use Rattle.std.proofs.lemmas.Int.{to_z-of_z}
use lib.IntN.{ℤ}
use Rattle.std.proofs.Common.{rules, FitsSigned, w32, subst}
use Rattle.mc_view.proofs.TrackerFacts.{no_gap}
use Rattle.mc_view.proofs.tracker.place_in.Goals as goal

pub returns-in-Ok-2 : goal.returns-in-Ok-2
returns-in-Ok-2 c =
    let fits : FitsSigned w32 c.args.eid = search rules in
    let eid = to_z-of_z w32 c.args.eid fits in
    absurd (no_gap c.args.entries.now c.args.eid c.in-Ok.at c.requires.rising c.requires.known
    (subst (λ (k : ℤ). IsGap c.args.entries.now k c.in-Ok.at) eid c.in-Ok.ensures.absent))
