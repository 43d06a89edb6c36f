use Rattle.std.proofs.lemmas.Int.{to_z-of_z}
use lib.IntN.{ℤ}
use Rattle.std.proofs.Common.{subst, IfOk, IfErr, List, ◌∙◌, rules, FitsSigned, w32}
use Rattle.mc_view.specs.declared.tracker.Entry.{Entry}
use Rattle.mc_view.specs.KeptTold.{IsAt, IsGap}
use Rattle.mc_view.proofs.TrackerFacts.{known_by}
use Rattle.mc_view.proofs.tracker.Tracker.knows.Goals as goal

pub returns : goal.returns
returns c =
    let fits : FitsSigned w32 c.args.eid = search rules in
    let eid = to_z-of_z w32 c.args.eid fits in
    let r = c.place_of.result in
    let found =
    subst (λ (es : List Entry). IfOk r (IsAt es c.args.eid)) c.as_slice.ensures.value
    (subst (λ (k : ℤ). IfOk r (IsAt c.as_slice.result.now k)) eid c.place_of.ensures.found) in
    let absent =
    subst (λ (es : List Entry). IfErr r (IsGap es c.args.eid)) c.as_slice.ensures.value
    (subst (λ (k : ℤ). IfErr r (IsGap c.as_slice.result.now k))
    eid c.place_of.ensures.absent) in
    rw (← c.self.view_is)
    (c.is_ok.ensures.value
    ∙ known_by c.self.inside.entries.items c.args.eid r c.self.invariant found absent)
