use Rattle.std.proofs.Common.{length}
use Rattle.mc_wire.proofs.Loops.{HasWritten}
use Rattle.mc_wire.proofs.sink.write_all.Given as goal

abbrev pub invariant-loop-rest : goal.invariant-loop-rest
invariant-loop-rest g l = HasWritten l.fn.sink l.sink (g.S.Sink.held l.fn.sink)
    (g.S.Sink.held l.sink) (g.S.Sink.faults l.fn.sink) (g.S.Sink.faults l.sink) l.piece l.rest

abbrev pub decreases-loop-rest : goal.decreases-loop-rest
decreases-loop-rest g l = length l.rest
