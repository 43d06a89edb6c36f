use Rattle.std.proofs.Common.{refl, arith}
use Rattle.mc_wire.proofs.Loops.{wrote_more}
use Rattle.mc_wire.proofs.sink.write_all.Goals as goal

pub loop-rest-preserved : goal.loop-rest-preserved
loop-rest-preserved g c =
    wrote_more _ _ _ _ _ _ _ _ _ _ c.loop-rest.rest.now c.in_ok-count.count
    c.loop-rest.invariant
    c.in_ok-count.ensures.took.0
    c.in_ok-count.ensures.took.1
    c.in_ok-count.ensures.grows
    c.write.ensures.counts

pub returns-clause-empty : goal.returns-clause-empty
returns-clause-empty g c = λ none. (refl, c.loop-rest.invariant.untouched (omega arith))
