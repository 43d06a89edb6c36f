use Rattle.mc_wire.specs.Count.{StandsOrRises}
use Rattle.mc_capture.proofs.ViewSteps.{IsViewing}
use Rattle.mc_capture.proofs.viewing.show_capture.Given as goal

abbrev pub invariant-loop : goal.invariant-loop
invariant-loop g l = record {
  views : IsViewing (g.I.Source.left l.fn.input) (g.I.Source.left l.input)
      (g.O.Sink.held l.fn.out) (g.O.Sink.held l.out) l.lines.items l.at l.talks;
  in_counts : StandsOrRises (g.I.Source.faults l.fn.input) (g.I.Source.faults l.input);
  out_counts : StandsOrRises (g.O.Sink.faults l.fn.out) (g.O.Sink.faults l.out);
}
