use Rattle.std.proofs.Common.{ap, ◌∙◌}
use Rattle.mc_hello.specs.declared.login_down.LoginDown.TheVariants.{Disconnect}
use Rattle.mc_model.specs.Texts.{chat_json}
use Rattle.mc_model.specs.Packets.{of_login}
use Rattle.mc_model.specs.Talk.{refused}
use Rattle.mc_model.proofs.FitsText.{refusal_short}
use Rattle.mc_model.proofs.FitsTalk.{refusal_clear}
use Rattle.mc_session.proofs.Sending.{one_sent}
use Rattle.mc_session.proofs.reply.refusal.Goals as goal

pub login_frame-requires-clause-fits : goal.login_frame-requires-clause-fits
login_frame-requires-clause-fits c =
    rw (c.in_ok-reason.ensures, c.refusal_text.ensures)
    (refusal_clear _ (refusal_short c.args.why)).0

pub login_frame-requires-clause-framed : goal.login_frame-requires-clause-framed
login_frame-requires-clause-framed c =
    rw (c.in_ok-reason.ensures, c.refusal_text.ensures)
    (refusal_clear _ (refusal_short c.args.why)).1

pub returns : goal.returns
unfolding refused
returns c = one_sent _ _ c.login_frame.result
    (ap (λ json. of_login (Disconnect json)) (c.in_ok-reason.ensures
    ∙ ap chat_json c.refusal_text.ensures)) c.login_frame.ensures
