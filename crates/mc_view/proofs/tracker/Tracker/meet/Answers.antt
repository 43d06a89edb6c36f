use Rattle.std.proofs.Common.{rules, FitsSigned, w32, to_z, of_z, subst, ap, List, ◌∙◌}
use Rattle.std.proofs.lemmas.Int.{to_z-of_z}
use Rattle.std.specs.FinMap as map
use lib.IntN.{ℤ}
use Rattle.mc_view.specs.declared.tracker.Entry.{Entry}
use Rattle.mc_view.specs.KeptTold.{IsGap, told_of}
use Rattle.mc_view.proofs.TrackerFacts.{rises_insert, told_insert}
use Rattle.mc_view.proofs.tracker.Tracker.meet.Goals as goal

pub invariant_of-self-2 : goal.invariant_of-self-2
invariant_of-self-2 c =
    let new : Entry =
    record { eid = to_z w32 (of_z w32 c.args.eid); spot = c.args.spot; pile = c.args.pile } in
    let gap =
    subst (λ (es : List Entry). IsGap es new.eid c.gap_for-at.result)
    c.as_slice.ensures.value c.gap_for-at.ensures in
    rw c.in_ok-insert.ensures.items
    (rises_insert c.self.inside.entries.items c.gap_for-at.result new c.self.invariant gap)

pub returns-clause-ok : goal.returns-clause-ok
returns-clause-ok c =
    let fits : FitsSigned w32 c.args.eid = search rules in
    let es = c.self.inside.entries.items in
    let new : Entry =
    record { eid = to_z w32 (of_z w32 c.args.eid); spot = c.args.spot; pile = c.args.pile } in
    let gap =
    subst (λ (es : List Entry). IsGap es new.eid c.gap_for-at.result)
    c.as_slice.ensures.value c.gap_for-at.ensures in
    rw (← c.self.view_is)
    (ap told_of c.in_ok-insert.ensures.items
    ∙ told_insert es c.gap_for-at.result new c.self.invariant gap
    ∙ ap (λ (k : ℤ). map.insert (told_of es) k (c.args.spot, c.args.pile))
    (to_z-of_z w32 c.args.eid fits))
