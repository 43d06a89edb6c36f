use Rattle.std.proofs.Common.{◌≡◌}
use Rattle.mc_wire.specs.Count.{StandsOrRises}
use Rattle.mc_model.specs.World.{World}
use Rattle.mc_events.specs.Served.{age_of}
use Rattle.mc_events.specs.Stands.{Stands}
use Rattle.mc_top.proofs.Tellings.{IsTaking}
use Rattle.mc_top.proofs.replay_lines.take_owed.Given as goal

abbrev pub invariant-loop-piece : goal.invariant-loop-piece
invariant-loop-piece g l = record {
  taking : (w : World) → Stands l.fn.server w → IsTaking l.fn.connection w l.server
      (g.O.Sink.held l.fn.out) (g.O.Sink.held l.out) l.fn.lines.items l.lines.items;
  age : age_of l.server ≡ age_of l.fn.server;
  counts : StandsOrRises (g.O.Sink.faults l.fn.out) (g.O.Sink.faults l.out);
}
