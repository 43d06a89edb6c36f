use Rattle.std.proofs.Common.{◌≡◌, ◌++◌, drop}
use Rattle.mc_view.specs.KeptTold.{numbers_of}
use Rattle.mc_view.proofs.LostFacts.{unknown}
use Rattle.mc_view.proofs.tracker.Tracker.lost_among.Given as goal

-- those that are lost before it, and those of what is left, are all
abbrev pub invariant-loop-entry : goal.invariant-loop-entry
invariant-loop-entry l = record {
  looks : l.looks ≡ l.now;
  lost : l.lost.items ++ unknown l.now (numbers_of (drop l.entry-index l.entry-items))
      ≡ unknown l.now (numbers_of l.entry-items);
}
