use Rattle.std.proofs.Common.{sym, ◌∙◌}
use Rattle.std.specs.Prelude.{OnOk}
use Rattle.mc_model.specs.World.{Seat}
use Rattle.mc_links.specs.Seats.{Becomes}
use Rattle.mc_links.proofs.Performing.{act_performs, close_performs, enter_performs}
use Rattle.mc_links.proofs.Performing.{reply_last_performs, reply_performs}
use Rattle.mc_links.proofs.seat.perform.Goals as goal

pub returns-in-Reply : goal.returns-in-Reply
returns-in-Reply c = λ before what unread next is.
    reply_performs (λ (t : Seat). OnOk c.reply.result (Becomes c.args.game.now c.reply.new.game
    c.args.connection.now c.reply.new.connection t)) c.args.connection.now.id
    c.args.game.now.game before c.args.connection.now.link unread what c.in-Reply.bytes next
    (sym c.in-Reply.is ∙ is) (λ packets e. c.reply.ensures packets unread e)

pub returns-in-ReplyClose : goal.returns-in-ReplyClose
returns-in-ReplyClose c = λ before what unread next is.
    reply_last_performs (λ (t : Seat). OnOk c.reply_last.result (Becomes c.args.game.now
    c.reply_last.new.game c.args.connection.now c.reply_last.new.connection t))
    c.args.connection.now.id c.args.game.now.game before c.args.connection.now.link unread what
    c.in-ReplyClose.bytes c.in-ReplyClose.cause next (sym c.in-ReplyClose.is ∙ is)
    (λ packets e. c.reply_last.ensures packets unread e)

pub returns-in-Enter : goal.returns-in-Enter
returns-in-Enter c = λ before what unread next is.
    enter_performs (λ (t : Seat). OnOk c.log_in.result (Becomes c.args.game.now c.log_in.new.game
    c.args.connection.now c.log_in.new.connection t)) c.args.connection.now.id
    c.args.game.now.game before c.args.connection.now.link unread what c.in-Enter.name
    c.in-Enter.protocol next (sym c.in-Enter.is ∙ is)
    (λ e. c.log_in.ensures before unread e)

pub returns-in-Act : goal.returns-in-Act
returns-in-Act c = λ before what unread next is.
    act_performs (λ (t : Seat). OnOk c.act-done.result (Becomes c.args.game.now
    c.act-done.new.game c.args.connection.now c.act-done.new.connection t))
    c.args.connection.now.id c.args.game.now.game before c.args.connection.now.link unread what
    c.in-Act.packet next (sym c.in-Act.is ∙ is) (c.act-done.ensures unread)

pub returns-in-Close : goal.returns-in-Close
returns-in-Close c = λ before what unread next is.
    close_performs (λ (t : Seat). OnOk c.close.result (Becomes c.args.game.now c.close.new.game
    c.args.connection.now c.close.new.connection t)) c.args.connection.now.id
    c.args.game.now.game before c.args.connection.now.link unread what c.in-Close.cause next
    (sym c.in-Close.is ∙ is) (c.close.ensures unread)
