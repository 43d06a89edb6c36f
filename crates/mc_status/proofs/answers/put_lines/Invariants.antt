use Rattle.std.proofs.Common.{◌≡◌, List, length}
use Rattle.std.specs.List.{AllByRecursion}
use Rattle.mc_model.specs.Packets.{Sent, bytes_of}
use Rattle.mc_wire.specs.Count.{StandsOrRises}
use Rattle.mc_status.specs.Playing.{IsSmall}
use Rattle.mc_status.proofs.Lines.{IsPutting}
use Rattle.mc_status.proofs.answers.put_lines.Given as goal

abbrev pub invariant-loop-rest : goal.invariant-loop-rest
invariant-loop-rest g l = record {
  putting : (packets : List Sent) → AllByRecursion IsSmall packets →
      l.fn.frames ≡ bytes_of packets → IsPutting (g.O.Sink.held l.fn.out) (g.O.Sink.held l.out)
      l.fn.lines.items l.lines.items l.rest packets;
  counts : StandsOrRises (g.O.Sink.faults l.fn.out) (g.O.Sink.faults l.out);
}

abbrev pub decreases-loop-rest : goal.decreases-loop-rest
decreases-loop-rest g l = length l.rest
