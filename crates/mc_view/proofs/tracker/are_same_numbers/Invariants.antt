use Rattle.std.proofs.Common.{◌≡◌, ℕ, ◌<◌, get_or}
use Rattle.mc_view.specs.declared.tracker.Entry.{Entry}
use Rattle.mc_view.proofs.tracker.are_same_numbers.Given as goal

-- those before it are the same
abbrev pub invariant-loop-i : goal.invariant-loop-i
invariant-loop-i l = (j : ℕ) (d : Entry) → j < l.i →
    (get_or l.entries j d).eid ≡ (get_or l.others j d).eid
