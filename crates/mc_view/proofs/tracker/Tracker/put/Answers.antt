use Rattle.std.proofs.Common.{rules, ◌≡◌, ℕ, length, FitsSigned, w32, to_z, of_z, subst, ap, List}
use Rattle.std.proofs.Common.{◌∙◌}
use Rattle.std.proofs.lemmas.Int.{to_z-of_z}
use Rattle.std.specs.FinMap as map
use lib.IntN.{ℤ}
use Rattle.mc_view.specs.declared.tracker.Entry.{Entry}
use Rattle.mc_view.specs.KeptTold.{IsAbove, told_of}
use Rattle.mc_view.proofs.TrackerFacts.{rises_push, told_push}
use Rattle.mc_view.proofs.tracker.Tracker.put.Goals as goal

pub invariant_of-self-then-is_above : goal.invariant_of-self-then-is_above
invariant_of-self-then-is_above c =
    let es = c.self.inside.entries.items in
    let new : Entry =
    record { eid = to_z w32 (of_z w32 c.args.eid); spot = c.args.spot.now; pile = c.args.pile.now } in
    let count : c.len.result ≡ length es = search rules in
    let high =
    subst (λ (n : ℕ). IsAbove es new.eid n) count
    (subst (λ (fs : List Entry). IsAbove fs new.eid c.len.result) c.as_slice.ensures.value
    (c.is_above.ensures c.if-is_above.true)) in
    rw c.in_ok-push.ensures.items (rises_push es new c.self.invariant high)

pub returns-then-is_above-clause-ok : goal.returns-then-is_above-clause-ok
returns-then-is_above-clause-ok c =
    let fits : FitsSigned w32 c.args.eid = search rules in
    let es = c.self.inside.entries.items in
    let new : Entry =
    record { eid = to_z w32 (of_z w32 c.args.eid); spot = c.args.spot.now; pile = c.args.pile.now } in
    let count : c.len.result ≡ length es = search rules in
    let high =
    subst (λ (n : ℕ). IsAbove es new.eid n) count
    (subst (λ (fs : List Entry). IsAbove fs new.eid c.len.result) c.as_slice.ensures.value
    (c.is_above.ensures c.if-is_above.true)) in
    rw (← c.self.view_is)
    (ap told_of c.in_ok-push.ensures.items ∙ told_push es new c.self.invariant high
    ∙ ap (λ (k : ℤ). map.insert (told_of es) k (c.args.spot.now, c.args.pile.now))
    (to_z-of_z w32 c.args.eid fits))
