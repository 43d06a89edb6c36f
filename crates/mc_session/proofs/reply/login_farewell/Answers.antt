use Rattle.mc_model.proofs.FitsTalk.{refusal_clear}
use Rattle.mc_session.proofs.Sending.{words_short}
use Rattle.mc_session.proofs.reply.login_farewell.Goals as goal

pub login_frame-requires-clause-fits : goal.login_frame-requires-clause-fits
login_frame-requires-clause-fits c =
    (refusal_clear c.in_ok-reason.reason
    (words_short c.args.cause.now _ _ c.in-Some.ensures c.in_ok-reason.ensures)).0

pub login_frame-requires-clause-framed : goal.login_frame-requires-clause-framed
login_frame-requires-clause-framed c =
    (refusal_clear c.in_ok-reason.reason
    (words_short c.args.cause.now _ _ c.in-Some.ensures c.in_ok-reason.ensures)).1
