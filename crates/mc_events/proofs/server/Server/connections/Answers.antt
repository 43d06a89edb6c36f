use Rattle.std.proofs.Common.{◌∙◌}
use Rattle.mc_events.proofs.Seating.{inside}
use Rattle.mc_events.proofs.Standing.{same_numbers}
use Rattle.mc_events.proofs.server.Server.connections.Goals as goal

pub returns : goal.returns
returns c = λ w st. c.as_slice.ensures.value ∙ c.self.invariant.are
    ∙ same_numbers (inside c.self.view_is st)
