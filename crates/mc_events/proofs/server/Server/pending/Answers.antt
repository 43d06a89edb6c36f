use Rattle.std.proofs.Common.{◌∙◌}
use Rattle.std.proofs.lemmas.Result.{IfOk-weaker}
use Rattle.mc_events.proofs.Seating.{inside}
use Rattle.mc_events.proofs.Standing.{pending_are}
use Rattle.mc_events.proofs.server.Server.pending.Goals as goal

pub returns : goal.returns
returns c = λ w st. IfOk-weaker c.pending.result _ _ (λ numbers is. is
    ∙ pending_are (inside c.self.view_is st)) c.pending.ensures
