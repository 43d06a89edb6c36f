use Rattle.std.proofs.Common.{rules, ◌≡◌, ◌<◌, ◌≤◌, FitsSigned, w32, length, get_or, Some, sym, ap}
use Rattle.std.proofs.Common.{◌∙◌}
use Rattle.std.proofs.lemmas.Int.{to_z-of_z}
use lib.IntN.{ℤ}
use Rattle.mc_view.specs.declared.tracker.Entry.{Entry}
use Rattle.mc_view.proofs.TrackerFacts.{told_key, told_no_key}
use Rattle.mc_view.proofs.tracker.Tracker.known.Goals as goal

pub returns-then-i-len-clause-eid : goal.returns-then-i-len-clause-eid
returns-then-i-len-clause-eid c =
    let es = c.self.inside.entries.items in
    let past : length es ≤ c.args.i = search rules in
    rw (← c.self.view_is) (sym (told_no_key es c.args.i c.self.invariant past))

pub returns-clause-eid : goal.returns-clause-eid
returns-clause-eid c =
    let es = c.self.inside.entries.items in
    let entry = c.index.result.now in
    let fits : FitsSigned w32 entry.eid = search rules in
    let within : c.args.i < length es = search rules in
    let read : entry ≡ get_or es c.args.i entry = search rules in
    rw (← c.self.view_is)
    (ap (λ (k : ℤ). Some k) (to_z-of_z w32 entry.eid fits ∙ ap (λ (e : Entry). e.eid) read)
    ∙ sym (told_key es c.args.i entry c.self.invariant within))
