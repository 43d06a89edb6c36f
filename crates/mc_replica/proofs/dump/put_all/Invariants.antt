use Rattle.std.proofs.Common.{drop}
use Rattle.std.specs.List.{flat_map}
use Rattle.mc_wire.specs.Count.{StandsOrRises}
use Rattle.mc_text.specs.Lines.{ended_line}
use Rattle.mc_text.specs.Passes.{Passes}
use Rattle.mc_replica.proofs.dump.put_all.Given as goal

abbrev pub invariant-loop-item : goal.invariant-loop-item
invariant-loop-item g l = record {
  underway : Passes (g.O.Sink.held l.fn.out) (g.O.Sink.held l.out) l.fn.lines.items
      (flat_map (λ item. ended_line (g.T.Dumped.line item)) l.items) l.lines.items
      (flat_map (λ item. ended_line (g.T.Dumped.line item)) (drop l.item-index l.items));
  counts : StandsOrRises (g.O.Sink.faults l.fn.out) (g.O.Sink.faults l.out);
}
