use Rattle.std.proofs.Common.{◌≢◌, ℕ, take}
use Rattle.std.specs.Prelude.{Some}
use Rattle.std.specs.List.{AllByRecursion}
use Rattle.mc_model.specs.declared.cause.Cause.TheVariants.{Backlog}
use Rattle.mc_model.specs.Run.{cause_in}
use Rattle.mc_model.specs.World.{World}
use Rattle.mc_events.specs.Stands.{Stands}
use Rattle.mc_measure.proofs.taking.is_any_full.Given as goal

abbrev pub invariant-loop-connection : goal.invariant-loop-connection
invariant-loop-connection l = record {
  clear : (w : World) → Stands l.fn.server w →
      AllByRecursion (λ (k : ℕ). cause_in k w ≢ Some Backlog)
      (take l.connection-index l.fn.connections);
}
