use Rattle.std.proofs.Common.{subst, sym}
use Rattle.mc_entities.specs.Folk.{FolkState}
use Rattle.mc_play.specs.Kept.{AreNear}
use Rattle.mc_play.proofs.Near.{placed_near}
use Rattle.mc_play.proofs.entities.Entities.place.Goals as goal

pub invariant_of-self : goal.invariant_of-self
invariant_of-self c = subst (λ (state : FolkState). AreNear state.entities)
    (sym c.place.ensures.state)
    (placed_near _ c.args.spot c.self.inside.folk.state c.requires c.self.invariant)
