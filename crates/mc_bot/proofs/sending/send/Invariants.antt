use Rattle.std.proofs.Common.{length}
use Rattle.mc_bot.proofs.Sends.{HasSent}
use Rattle.mc_bot.proofs.sending.send.Given as goal

abbrev pub invariant-loop-rest : goal.invariant-loop-rest
invariant-loop-rest g l = HasSent (g.K.Link.told l.fn.link) (g.K.Link.told l.link)
    (g.K.Link.stage l.fn.link) (g.K.Link.stage l.link) (g.K.Link.counts l.fn.link).faults
    (g.K.Link.counts l.link).faults (g.K.Link.answers l.fn.link) (g.K.Link.answers l.link) l.piece
    l.rest

abbrev pub decreases-loop-rest : goal.decreases-loop-rest
decreases-loop-rest g l = length l.rest
