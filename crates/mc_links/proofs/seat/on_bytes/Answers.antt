use Rattle.std.proofs.Common.{sym, ◌∙◌}
use Rattle.std.proofs.lemmas.Result.{on_ok_weaker}
use Rattle.mc_links.proofs.Reading.{bytes_deaf, bytes_done}
use Rattle.mc_links.proofs.seat.on_bytes.Goals as goal

pub returns-then-is_closed-clause-becomes : goal.returns-then-is_closed-clause-becomes
returns-then-is_closed-clause-becomes c = λ unread sits.
    bytes_deaf c.args.game.now c.args.connection.now unread c.args.bytes.now
    (sym c.is_closed.ensures ∙ c.if-is_closed.true)

pub returns-clause-becomes : goal.returns-clause-becomes
returns-clause-becomes c = λ unread sits.
    let is_open = sym c.is_closed.ensures ∙ c.if-is_closed.false in
    on_ok_weaker c.read.result
    (λ done. (bytes_done c.args.game.now c.read.new.game c.args.connection.now
    c.read.new.connection unread c.args.bytes.now is_open done).0)
    (c.read.ensures.done unread (sits is_open))

pub returns-clause-sits : goal.returns-clause-sits
returns-clause-sits c = λ unread sits.
    let is_open = sym c.is_closed.ensures ∙ c.if-is_closed.false in
    on_ok_weaker c.read.result
    (λ done. (bytes_done c.args.game.now c.read.new.game c.args.connection.now
    c.read.new.connection unread c.args.bytes.now is_open done).1)
    (c.read.ensures.done unread (sits is_open))
