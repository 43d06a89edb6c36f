use Rattle.std.proofs.Common.{◌≡◌, drop}
use Rattle.mc_model.specs.World.{World}
use Rattle.mc_events.specs.Served.{age_of}
use Rattle.mc_events.specs.Stands.{Stands}
use Rattle.mc_measure.proofs.Owed.{AreTaking}
use Rattle.mc_measure.proofs.taking.take_all.Given as goal

abbrev pub invariant-loop-connection : goal.invariant-loop-connection
invariant-loop-connection l = record {
  taking : (w : World) → Stands l.fn.server w →
      AreTaking l.fn.connections (drop l.connection-index l.fn.connections) w l.server l.total;
  age : age_of l.server ≡ age_of l.fn.server;
}
