use Rattle.std.proofs.Common.{length}
use Rattle.mc_wire.specs.Count.{StandsOrRises}
use Rattle.mc_capture.specs.Hearings.{IsWaiting, heard_from}
use Rattle.mc_capture.specs.Talks.{on_bytes}
use Rattle.mc_capture.proofs.Underway.{IsShowing}
use Rattle.mc_capture.proofs.hearing.hear_piece.Given as goal

abbrev pub invariant-loop-rest : goal.invariant-loop-rest
invariant-loop-rest g l = record {
  shows : IsShowing (g.O.Sink.held l.fn.out) (g.O.Sink.held l.out) l.fn.lines.items l.lines.items
      (on_bytes l.k l.way (heard_from l.fn.states l.fn.splitter.held) l.fn.piece)
      (on_bytes l.k l.way (heard_from l.states l.splitter.held) l.rest);
  waiting : IsWaiting l.splitter;
  counts : StandsOrRises (g.O.Sink.faults l.fn.out) (g.O.Sink.faults l.out);
}

abbrev pub decreases-loop-rest : goal.decreases-loop-rest
decreases-loop-rest g l = length l.rest
