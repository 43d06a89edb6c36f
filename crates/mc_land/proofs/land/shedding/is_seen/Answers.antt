use Rattle.std.proofs.Common.{sym, ap, ◌∙◌}
use Rattle.std.specs.Option.{is_some}
use Rattle.mc_land.proofs.ShedFacts.{any_position}
use Rattle.mc_land.proofs.land.shedding.is_seen.Goals as goal

pub returns-in-Some : goal.returns-in-Some
returns-in-Some c = sym (any_position _ c.args.views.now ∙ ap is_some (sym c.in-Some.ensures))

pub returns-in-None : goal.returns-in-None
returns-in-None c = sym (any_position _ c.args.views.now ∙ ap is_some (sym c.in-None.ensures))
