use Rattle.std.proofs.Common.{subst, sym}
use Rattle.mc_entities.specs.Folk.{FolkState}
use Rattle.mc_play.specs.Kept.{AreNear}
use Rattle.mc_play.proofs.Near.{kind_near}
use Rattle.mc_play.proofs.entities.Entities.lie_as.Goals as goal

pub invariant_of-self : goal.invariant_of-self
invariant_of-self c = subst (λ (state : FolkState). AreNear state.entities)
    (sym c.set_kind.ensures.state)
    (kind_near _ _ c.self.inside.folk.state c.self.invariant)
