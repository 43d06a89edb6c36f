use Rattle.std.proofs.Common.{◌≡◌, drop}
use Rattle.mc_model.specs.Replica.{with_metas}
use Rattle.mc_replica.proofs.seen.Looks.take_metas.Given as goal

abbrev pub invariant-loop-entry : goal.invariant-loop-entry
invariant-loop-entry l =
    with_metas (drop l.entry-index l.metas) l.self ≡ with_metas l.metas l.fn.self
