use Rattle.std.proofs.Common.{rules, FitsSigned, w32, subst}
use Rattle.std.proofs.lemmas.Int.{to_z-of_z}
use lib.IntN.{ℤ}
use Rattle.mc_view.specs.KeptTold.{IsAbove, IsBelow}
use Rattle.mc_view.proofs.EntryFacts.{gap_between}
use Rattle.mc_view.proofs.tracker.is_gap.Goals as goal

pub returns : goal.returns
returns c = λ t.
    let fits : FitsSigned w32 c.args.eid = search rules in
    let same = to_z-of_z w32 c.args.eid fits in
    let es = c.args.entries.now in
    gap_between es c.args.eid c.args.at c.requires.rising c.requires.within
    (subst (λ (k : ℤ). IsAbove es k c.args.at) same (c.is_above.ensures c.if-not-is_above.false))
    (subst (λ (k : ℤ). IsBelow es k c.args.at) same (c.is_below.ensures t))
