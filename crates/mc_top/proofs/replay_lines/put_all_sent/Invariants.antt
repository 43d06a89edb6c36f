use Rattle.std.proofs.Common.{◌≡◌, drop}
use Rattle.mc_wire.specs.Count.{StandsOrRises}
use Rattle.mc_model.specs.World.{World}
use Rattle.mc_events.specs.Served.{age_of}
use Rattle.mc_events.specs.Stands.{Stands}
use Rattle.mc_measure.specs.Settling.{taken}
use Rattle.mc_top.specs.Replaying.{sent_in}
use Rattle.mc_top.proofs.Tellings.{IsUnderway}
use Rattle.mc_top.proofs.replay_lines.put_all_sent.Given as goal

abbrev pub invariant-loop-connection : goal.invariant-loop-connection
invariant-loop-connection g l = record {
  underway : (w : World) → Stands l.fn.server w →
      IsUnderway taken sent_in l.fn.connections w l.server (g.O.Sink.held l.fn.out) (g.O.Sink.held
      l.out) (drop l.connection-index l.fn.connections) l.fn.lines.items l.lines.items;
  age : age_of l.server ≡ age_of l.fn.server;
  counts : StandsOrRises (g.O.Sink.faults l.fn.out) (g.O.Sink.faults l.out);
}
