use Rattle.mc_model.proofs.FitsPlay.{leave_clear}
use Rattle.mc_session.proofs.Sending.{words_short}
use Rattle.mc_session.proofs.reply.play_farewell.Goals as goal

pub play_frame-requires-clause-fits : goal.play_frame-requires-clause-fits
play_frame-requires-clause-fits c = (leave_clear c.in_ok-reason.reason
    (words_short c.args.cause.now _ _ c.in-Some.ensures c.in_ok-reason.ensures)).0

pub play_frame-requires-clause-framed : goal.play_frame-requires-clause-framed
play_frame-requires-clause-framed c =
    (leave_clear c.in_ok-reason.reason
    (words_short c.args.cause.now _ _ c.in-Some.ensures c.in_ok-reason.ensures)).1
