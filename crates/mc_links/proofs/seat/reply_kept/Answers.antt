use Rattle.std.proofs.lemmas.Result.{IfOk-weaker}
use Rattle.mc_links.proofs.Replying.{may_open, may_read, may_shorten, may_stay}
use Rattle.mc_links.proofs.seat.reply_kept.Goals as goal

pub returns-clause-read : goal.returns-clause-read
returns-clause-read c = λ count all left_ v d r.
    IfOk-weaker c.reply_kept.result _ _ (λ done may. may_read c.args.game.now c.args.connection.now
    c.reply_kept.new.self c.most.result c.in_ok-online.online done may c.most.ensures.is
    c.in_ok-online.ensures count all left_ v d r) c.reply_kept.ensures.replied

pub returns-clause-opened : goal.returns-clause-opened
returns-clause-opened c = λ open_.
    IfOk-weaker c.reply_kept.result _ _ (λ done may. may_open c.args.connection.now
    c.reply_kept.new.self c.most.result c.in_ok-online.online done may open_)
    c.reply_kept.ensures.replied

pub returns-clause-fewer : goal.returns-clause-fewer
returns-clause-fewer c = IfOk-weaker c.reply_kept.result _ _
    (λ done may. may_shorten c.args.connection.now c.reply_kept.new.self c.most.result
    c.in_ok-online.online done may) c.reply_kept.ensures.replied

pub returns-clause-same : goal.returns-clause-same
returns-clause-same c = IfOk-weaker c.reply_kept.result _ _
    (λ done may. may_stay c.args.connection.now c.reply_kept.new.self c.most.result
    c.in_ok-online.online done may) c.reply_kept.ensures.replied
