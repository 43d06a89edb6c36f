use Rattle.std.proofs.lemmas.Result.{on_ok_weaker}
use Rattle.mc_links.proofs.Handing.{disconnected}
use Rattle.mc_links.proofs.connection.Connection.disconnect_with.Goals as goal

pub returns-clause-ok : goal.returns-clause-ok
returns-clause-ok c = λ packets e.
    on_ok_weaker c.hand.result (λ made. disconnected c.args.self.now c.mark_closed.new.self
    c.hand.new.self c.args.cause packets c.mark_closed.ensures made)
    (c.hand.ensures.ok packets e)
