use Rattle.std.proofs.Common.{◌≡◌, drop}
use Rattle.mc_model.specs.World.{World}
use Rattle.mc_events.specs.Served.{age_of}
use Rattle.mc_events.specs.Stands.{Stands}
use Rattle.mc_measure.proofs.Owed.{AreForgetting}
use Rattle.mc_measure.proofs.taking.forget_all.Given as goal

abbrev pub invariant-loop-connection : goal.invariant-loop-connection
invariant-loop-connection l = record {
  forgetting : (w : World) → Stands l.fn.server w →
      AreForgetting l.fn.connections (drop l.connection-index l.fn.connections) w l.server;
  age : age_of l.server ≡ age_of l.fn.server;
}
