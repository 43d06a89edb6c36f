use Rattle.std.proofs.Common.{◌≡◌, ◌≤◌, length, take}
use Rattle.mc_wire.specs.Count.{StandsOrRises}
use Rattle.mc_wire.specs.Stream.{Consumes}
use Rattle.mc_capture.proofs.fill.fill.Given as goal

abbrev pub invariant-loop-count : goal.invariant-loop-count
invariant-loop-count g l = record {
  within : l.count ≤ length l.room;
  size : length l.room ≡ length l.fn.room;
  consumed : Consumes (g.I.Source.left l.fn.input) (g.I.Source.left l.input)
      (take l.count l.room);
  counts : StandsOrRises (g.I.Source.faults l.fn.input) (g.I.Source.faults l.input);
}

abbrev pub decreases-loop-count : goal.decreases-loop-count
decreases-loop-count g l = g.I.Source.answers l.input
