use Rattle.mc_entities.proofs.KeptFacts.{kept_ticked}
use Rattle.mc_entities.proofs.folk.Folk.tick.Goals as goal

pub invariant_of-self : goal.invariant_of-self
invariant_of-self g c = kept_ticked _ c.self.inside.entities.items _ _ _ _ _ c.self.invariant
    c.tick_all.ensures.entities
