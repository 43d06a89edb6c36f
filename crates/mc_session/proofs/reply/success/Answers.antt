use Rattle.mc_model.specs.Talk.{accepted}
use Rattle.mc_model.proofs.FitsText.{uuid_short, name_short}
use Rattle.mc_model.proofs.FitsTalk.{success_clear}
use Rattle.mc_session.proofs.Sending.{one_sent}
use Rattle.mc_session.proofs.reply.success.Goals as goal

pub login_frame-requires-clause-fits : goal.login_frame-requires-clause-fits
login_frame-requires-clause-fits c =
    rw (c.in_ok-uuid.ensures, c.in_ok-copy.ensures, c.text.ensures.value)
    (success_clear _ _ (uuid_short c.offline_uuid.result)
    (name_short c.args.name.now c.text.ensures.name)).0

pub login_frame-requires-clause-framed : goal.login_frame-requires-clause-framed
login_frame-requires-clause-framed c =
    rw (c.in_ok-uuid.ensures, c.in_ok-copy.ensures, c.text.ensures.value)
    (success_clear _ _ (uuid_short c.offline_uuid.result)
    (name_short c.args.name.now c.text.ensures.name)).1

pub returns : goal.returns
unfolding accepted
returns c = one_sent _ _ c.login_frame.result
    (rw (c.in_ok-uuid.ensures, c.in_ok-copy.ensures, c.text.ensures.value, c.offline_uuid.ensures))
    c.login_frame.ensures
