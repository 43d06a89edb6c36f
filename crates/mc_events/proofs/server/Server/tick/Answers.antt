use Rattle.mc_model.specs.Tick.{at_tick}
use Rattle.mc_events.proofs.Idle.{idle_within}
use Rattle.mc_events.proofs.server.Server.tick.Goals as goal

pub returns-then-is_err-clause-idle : goal.returns-then-is_err-clause-idle
returns-then-is_err-clause-idle g c = λ w s plans idle.
    idle_within c.args.self.now.game.settled (at_tick w).game c.args.self.now.connections _ _ idle
    (c.try_tick-done.ensures.looks w s plans)

pub returns-else-is_err-clause-idle : goal.returns-else-is_err-clause-idle
returns-else-is_err-clause-idle g c = λ w s plans idle.
    idle_within c.args.self.now.game.settled (at_tick w).game c.args.self.now.connections _ _ idle
    (c.try_tick-done.ensures.looks w s plans)
