use Rattle.std.proofs.Common.{subst, sym}
use Rattle.mc_entities.specs.Folk.{FolkState}
use Rattle.mc_play.specs.Kept.{AreNear}
use Rattle.mc_play.proofs.Near.{all_removed_near}
use Rattle.mc_play.proofs.entities.Entities.take_all.Goals as goal

pub invariant_of-self : goal.invariant_of-self
invariant_of-self c = subst (λ (state : FolkState). AreNear state.entities)
    (sym c.remove_all.ensures.state)
    (all_removed_near _ c.self.inside.folk.state c.self.invariant)
