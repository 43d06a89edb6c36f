use Rattle.std.proofs.lemmas.Int.{to_z-of_z}
use lib.IntN.{ℤ}
use Rattle.std.proofs.Common.{subst, ap, sym, List, ◌∙◌, rules, FitsSigned, w32}
use Rattle.mc_view.specs.declared.tracker.Entry.{Entry}
use Rattle.mc_view.specs.KeptTold.{IsAt, IsGap, told_of}
use Rattle.mc_view.proofs.TrackerFacts.{has_at, has_gap, rises_remove, told_remove, told_none}
use Rattle.mc_view.proofs.tracker.Tracker.lose.Goals as goal

pub invariant_of-self : goal.invariant_of-self
invariant_of-self c =
    let fits : FitsSigned w32 c.args.eid = search rules in
    let eid = to_z-of_z w32 c.args.eid fits in
    let is =
    subst (λ (es : List Entry). IsAt es c.args.eid c.in-Ok.at) c.as_slice.ensures.value
    (subst (λ (k : ℤ). IsAt c.as_slice.result.now k c.in-Ok.at) eid c.in-Ok.ensures.found) in
    rw c.remove.ensures.items
    (rises_remove c.self.inside.entries.items c.args.eid c.in-Ok.at c.self.invariant is)

pub returns-in-Ok-clause-knew : goal.returns-in-Ok-clause-knew
returns-in-Ok-clause-knew c =
    let fits : FitsSigned w32 c.args.eid = search rules in
    let eid = to_z-of_z w32 c.args.eid fits in
    let is =
    subst (λ (es : List Entry). IsAt es c.args.eid c.in-Ok.at) c.as_slice.ensures.value
    (subst (λ (k : ℤ). IsAt c.as_slice.result.now k c.in-Ok.at) eid c.in-Ok.ensures.found) in
    rw (← c.self.view_is)
    (sym (has_at c.self.inside.entries.items c.args.eid c.in-Ok.at c.self.invariant is))

pub returns-in-Ok-clause-gone : goal.returns-in-Ok-clause-gone
returns-in-Ok-clause-gone c =
    let fits : FitsSigned w32 c.args.eid = search rules in
    let eid = to_z-of_z w32 c.args.eid fits in
    let is =
    subst (λ (es : List Entry). IsAt es c.args.eid c.in-Ok.at) c.as_slice.ensures.value
    (subst (λ (k : ℤ). IsAt c.as_slice.result.now k c.in-Ok.at) eid c.in-Ok.ensures.found) in
    rw (← c.self.view_is)
    (ap told_of c.remove.ensures.items
    ∙ told_remove c.self.inside.entries.items c.args.eid c.in-Ok.at c.self.invariant is)

pub returns-in-Err-clause-knew : goal.returns-in-Err-clause-knew
returns-in-Err-clause-knew c =
    let fits : FitsSigned w32 c.args.eid = search rules in
    let eid = to_z-of_z w32 c.args.eid fits in
    let gap =
    subst (λ (es : List Entry). IsGap es c.args.eid c.in-Err.field-0) c.as_slice.ensures.value
    (subst (λ (k : ℤ). IsGap c.as_slice.result.now k c.in-Err.field-0)
    eid c.in-Err.ensures.absent) in
    rw (← c.self.view_is)
    (sym (has_gap c.self.inside.entries.items c.args.eid c.in-Err.field-0 c.self.invariant gap))

pub returns-in-Err-clause-gone : goal.returns-in-Err-clause-gone
returns-in-Err-clause-gone c =
    let fits : FitsSigned w32 c.args.eid = search rules in
    let eid = to_z-of_z w32 c.args.eid fits in
    let gap =
    subst (λ (es : List Entry). IsGap es c.args.eid c.in-Err.field-0) c.as_slice.ensures.value
    (subst (λ (k : ℤ). IsGap c.as_slice.result.now k c.in-Err.field-0)
    eid c.in-Err.ensures.absent) in
    rw (← c.self.view_is)
    (told_none c.self.inside.entries.items c.args.eid c.in-Err.field-0 c.self.invariant gap)
