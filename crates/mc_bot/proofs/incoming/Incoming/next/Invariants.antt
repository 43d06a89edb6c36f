use Rattle.mc_bot.specs.Arriving.{tries}
use Rattle.mc_bot.proofs.Arrivals.{HasWaited}
use Rattle.mc_bot.proofs.incoming.Incoming.next.Given as goal

abbrev pub invariant-loop-payload : goal.invariant-loop-payload
invariant-loop-payload g l = HasWaited l.fn.self l.self (g.K.Link.told l.fn.link)
    (g.K.Link.told l.link) (g.K.Link.stage l.link) (g.K.Link.counts l.fn.link).faults
    (g.K.Link.counts l.link).faults (g.K.Link.answers l.fn.link) (g.K.Link.answers l.link)

abbrev pub decreases-loop-payload : goal.decreases-loop-payload
decreases-loop-payload g l = tries (g.K.Link.answers l.link) l.self
