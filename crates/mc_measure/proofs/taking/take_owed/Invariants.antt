use Rattle.std.proofs.Common.{◌≡◌}
use Rattle.mc_model.specs.World.{World}
use Rattle.mc_events.specs.Served.{age_of}
use Rattle.mc_events.specs.Stands.{Stands, owes}
use Rattle.mc_measure.proofs.Owed.{IsTaking}
use Rattle.mc_measure.proofs.taking.take_owed.Given as goal

abbrev pub invariant-taking : goal.invariant-taking
invariant-taking l = record {
  taking : (w : World) → Stands l.fn.server w → IsTaking l.connection w l.server l.total;
  age : age_of l.server ≡ age_of l.fn.server;
}

abbrev pub decreases-taking : goal.decreases-taking
decreases-taking l = owes l.connection l.server
