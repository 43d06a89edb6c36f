use Rattle.std.proofs.Common.{◌≡◌, None, length}
use Rattle.mc_wire.specs.Count.{StandsOrRises}
use Rattle.mc_capture.specs.Hearings.{from_front}
use Rattle.mc_capture.specs.Talks.{on_bytes}
use Rattle.mc_capture.proofs.Underway.{IsShowing}
use Rattle.mc_capture.proofs.hearing.hear_frames.Given as goal

abbrev pub invariant-taking : goal.invariant-taking
invariant-taking g l = record {
  shows : IsShowing (g.O.Sink.held l.fn.out) (g.O.Sink.held l.out) l.fn.lines.items l.lines.items
      (on_bytes l.k l.way (from_front l.fn.states) l.fn.splitter.held)
      (on_bytes l.k l.way (from_front l.states) l.splitter.held);
  fine : l.splitter.fault ≡ None;
  counts : StandsOrRises (g.O.Sink.faults l.fn.out) (g.O.Sink.faults l.out);
}

abbrev pub decreases-taking : goal.decreases-taking
decreases-taking g l = length l.splitter.held
