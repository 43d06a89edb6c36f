use Rattle.std.proofs.Common.{sym, ap, ◌∙◌}
use Rattle.std.specs.Option.{option_copied}
use Rattle.mc_events.proofs.Looks.{inside_is}
use Rattle.mc_events.proofs.Seating.{inside}
use Rattle.mc_events.proofs.server.Server.is_inside.Goals as goal

pub returns-in-Some : goal.returns-in-Some
returns-in-Some c = λ w st. c.is_inside.ensures ∙ inside_is c.args.k (inside c.self.view_is st)
    (sym c.find.ensures ∙ ap option_copied c.in-Some.is)

pub returns-in-None : goal.returns-in-None
returns-in-None c = λ w st. inside_is c.args.k (inside c.self.view_is st)
    (sym c.find.ensures ∙ ap option_copied c.in-None.is)
