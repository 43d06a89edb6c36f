use Rattle.mc_land.proofs.UpkeepFacts.{touched_are}
use Rattle.mc_land.proofs.land.Land.touched.Goals as goal

pub returns : goal.returns
returns c = rw (← c.self.view_is) (touched_are _ _ _ _ c.self.invariant.0 c.self.invariant.2.known
    c.len-many.ensures.ordered)
