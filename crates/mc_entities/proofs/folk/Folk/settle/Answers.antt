use Rattle.mc_entities.proofs.KeptFacts.{kept_settled}
use Rattle.mc_entities.proofs.folk.Folk.settle.Goals as goal

pub invariant_of-self : goal.invariant_of-self
invariant_of-self c = kept_settled c.self.inside.entities.items _ _ _ _ _ _ c.self.invariant
    c.settle_told.ensures.rows c.settle_told.ensures.capacity
