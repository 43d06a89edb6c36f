-- The spot of an entity is near, as all are.
use Rattle.std.proofs.Common.{sym, ap, ◌∙◌}
use Rattle.std.specs.Option.{option_copied}
use Rattle.mc_play.proofs.Near.{numbered_near}
use Rattle.mc_play.proofs.entities.Entities.spot_of.Goals as goal

pub returns-in-Some-clause-near : goal.returns-in-Some-clause-near
returns-in-Some-clause-near c = numbered_near _
    c.self.inside.folk.state.entities c.in-Some.entity.now c.self.invariant
    (sym c.get.ensures.entity ∙ ap option_copied c.in-Some.is)
