use Rattle.std.proofs.Common.{◌≡◌, ◌++◌, ℕ, List, length}
use Rattle.std.specs.Prelude.{Option}
use Rattle.std.specs.List.{fold}
use Rattle.mc_wire.specs.Count.{StandsOrRises}
use Rattle.mc_status.specs.StatusText.{Exchange, receives}
use Rattle.mc_status.specs.Playing.{Meets}
use Rattle.mc_status.proofs.playing.Client.receive.Given as goal

abbrev pub invariant-loop-rest : goal.invariant-loop-rest
invariant-loop-rest g l = record {
  done : List ℕ;
  parts : l.fn.line ≡ done ++ l.rest;
  received : (start : Option (List ℕ)) (x : Exchange) →
      Meets l.fn.most start (g.O.Sink.held l.fn.out) l.fn.self.server l.fn.self.lines.items x →
      Meets l.fn.most start (g.O.Sink.held l.out) l.self.server l.self.lines.items
      (fold receives x done);
  counts : StandsOrRises (g.O.Sink.faults l.fn.out) (g.O.Sink.faults l.out);
}

abbrev pub decreases-loop-rest : goal.decreases-loop-rest
decreases-loop-rest g l = length l.rest
