use Rattle.mc_land.proofs.TouchedFacts.{kept_settled, ready_settled}
use Rattle.mc_land.proofs.ready.Ready.settle.Goals as goal

pub invariant_of-self : goal.invariant_of-self
invariant_of-self c = kept_settled _ _ _ c.self.inside.touched.items _ _ c.self.invariant
    c.clear.ensures.items

pub returns : goal.returns
returns c = rw (← c.self.view_is) (ready_settled _ _ _ c.self.inside.touched.items _
    c.clear.ensures.items)
