use Rattle.std.proofs.Common.{length}
use Rattle.hex.specs.Hex.{encode_lower}
use Rattle.mc_wire.specs.Count.{StandsOrRises}
use Rattle.mc_capture.proofs.Underway.{IsShowing}
use Rattle.mc_capture.proofs.pieces.put_hex.Given as goal

abbrev pub invariant-loop-rest : goal.invariant-loop-rest
invariant-loop-rest g l = record {
  shows : IsShowing {B = Unit {0}} (g.O.Sink.held l.fn.out) (g.O.Sink.held l.out)
      l.fn.lines.items l.lines.items (encode_lower l.fn.bytes, tt) (encode_lower l.rest, tt);
  counts : StandsOrRises (g.O.Sink.faults l.fn.out) (g.O.Sink.faults l.out);
}

abbrev pub decreases-loop-rest : goal.decreases-loop-rest
decreases-loop-rest g l = length l.rest
