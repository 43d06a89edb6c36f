use Rattle.std.proofs.Common.{sym, ap, ◌∙◌}
use Rattle.mc_view.specs.KeptTold.{numbers_of}
use Rattle.mc_view.proofs.LostFacts.{none_lost}
use Rattle.mc_view.proofs.tracker.Tracker.lost.Goals as goal

pub returns-then-are_same_numbers : goal.returns-then-are_same_numbers
returns-then-are_same_numbers c =
    let es = c.self.inside.entries.items in
    let fs = c.now.inside.entries.items in
    let same = sym (ap numbers_of c.as_slice.ensures.value)
    ∙ c.are_same_numbers.ensures c.if-are_same_numbers.true
    ∙ ap numbers_of c.as_slice-2.ensures.value in
    rw (← c.self.view_is, ← c.now.view_is)
    (c.new.ensures.items ∙ sym (none_lost es fs c.self.invariant c.now.invariant same))
