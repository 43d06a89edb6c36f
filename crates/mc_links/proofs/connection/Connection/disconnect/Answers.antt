use Rattle.std.proofs.lemmas.Result.{on_ok_weaker}
use Rattle.mc_model.specs.Talk.{farewell}
use Rattle.mc_links.proofs.Handing.{disconnected_last}
use Rattle.mc_links.proofs.connection.Connection.disconnect.Goals as goal

pub returns-clause-ok : goal.returns-clause-ok
returns-clause-ok c =
    on_ok_weaker c.disconnect_with.result
    (λ made. disconnected_last c.args.self.now c.last_words.new.self c.disconnect_with.new.self
    c.args.cause _ c.in_ok-bytes.ensures.next made)
    (c.disconnect_with.ensures.ok (farewell c.args.self.now.link.stage c.args.cause)
    c.in_ok-bytes.ensures.bytes)
