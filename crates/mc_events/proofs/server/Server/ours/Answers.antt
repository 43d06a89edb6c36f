use Rattle.std.proofs.Common.{◌∙◌}
use Rattle.mc_events.proofs.Seating.{inside}
use Rattle.mc_events.proofs.Standing.{ours_are}
use Rattle.mc_events.proofs.server.Server.ours.Goals as goal

pub returns : goal.returns
returns c = λ w st. c.ours.ensures ∙ ours_are (inside c.self.view_is st)
