use Rattle.std.proofs.Common.{rules, FitsSigned, w32, List, subst, ap, ◌∙◌}
use Rattle.std.proofs.lemmas.Int.{to_z-of_z}
use lib.IntN.{ℤ}
use Rattle.mc_view.specs.declared.tracker.Entry.{Entry}
use Rattle.mc_view.specs.KeptTold.{IsAt, IsGap, told_of}
use Rattle.mc_view.proofs.TrackerFacts.{rises_insert, rises_set, told_insert, told_set}
use Rattle.mc_view.proofs.tracker.Tracker.put_entry.Goals as goal

pub invariant_of-self : goal.invariant_of-self
invariant_of-self c =
    let new = c.args.entry in
    let fits : FitsSigned w32 new.eid = search rules in
    let is =
    subst (λ (es : List Entry). IsAt es new.eid c.in-Ok.at) c.as_slice.ensures.value
    (subst (λ (k : ℤ). IsAt c.as_slice.result.now k c.in-Ok.at) (to_z-of_z w32 new.eid fits)
    c.in-Ok.ensures.found) in
    rises_set c.self.inside.entries.items c.in-Ok.at new c.self.invariant is

pub invariant_of-self-in-Err : goal.invariant_of-self-in-Err
invariant_of-self-in-Err c =
    let new = c.args.entry in
    let fits : FitsSigned w32 new.eid = search rules in
    let gap =
    subst (λ (es : List Entry). IsGap es new.eid c.in-Err.at) c.as_slice.ensures.value
    (subst (λ (k : ℤ). IsGap c.as_slice.result.now k c.in-Err.at) (to_z-of_z w32 new.eid fits)
    c.in-Err.ensures.absent) in
    rw c.in_ok-insert-in-Err.ensures.items
    (rises_insert c.self.inside.entries.items c.in-Err.at new c.self.invariant gap)

pub returns-in-Ok-clause-ok : goal.returns-in-Ok-clause-ok
returns-in-Ok-clause-ok c =
    let new = c.args.entry in
    let fits : FitsSigned w32 new.eid = search rules in
    let is =
    subst (λ (es : List Entry). IsAt es new.eid c.in-Ok.at) c.as_slice.ensures.value
    (subst (λ (k : ℤ). IsAt c.as_slice.result.now k c.in-Ok.at) (to_z-of_z w32 new.eid fits)
    c.in-Ok.ensures.found) in
    rw (← c.self.view_is)
    (told_set c.self.inside.entries.items c.in-Ok.at new c.self.invariant is)

pub returns-in_ok-insert-in-Err-clause-ok : goal.returns-in_ok-insert-in-Err-clause-ok
returns-in_ok-insert-in-Err-clause-ok c =
    let new = c.args.entry in
    let fits : FitsSigned w32 new.eid = search rules in
    let gap =
    subst (λ (es : List Entry). IsGap es new.eid c.in-Err.at) c.as_slice.ensures.value
    (subst (λ (k : ℤ). IsGap c.as_slice.result.now k c.in-Err.at) (to_z-of_z w32 new.eid fits)
    c.in-Err.ensures.absent) in
    rw (← c.self.view_is)
    (ap told_of c.in_ok-insert-in-Err.ensures.items
    ∙ told_insert c.self.inside.entries.items c.in-Err.at new c.self.invariant gap)
