use Rattle.std.proofs.Common.{◌≡◌, drop}
use Rattle.mc_model.specs.Replica.{without_eids}
use Rattle.mc_replica.proofs.entities.Entities.remove_all.Given as goal

abbrev pub invariant-loop-eid : goal.invariant-loop-eid
invariant-loop-eid l =
    without_eids l.self (drop l.eid-index l.eids) ≡ without_eids l.fn.self l.eids
