use Rattle.std.proofs.Common.{ap, sym, ◌∙◌}
use Rattle.std.specs.Ordering.{int_cmp}
use Rattle.std.specs.FinMap.{entries, entries-from_sorted}
use Rattle.mc_view.specs.Told.{Told}
use Rattle.mc_view.specs.KeptTold.{pairs_of}
use Rattle.mc_view.proofs.tracker.Tracker.rest.Goals as goal

pub returns : goal.returns
returns c = c.new.ensures ∙ ap pairs_of c.as_slice.ensures.value
    ∙ sym (ap (λ (told : Told). entries told) (sym c.self.view_is)
    ∙ entries-from_sorted int_cmp (pairs_of c.self.inside.entries.items) c.self.invariant)
