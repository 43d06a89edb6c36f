use Rattle.mc_play.proofs.Stocked.{stocked_few}
use Rattle.mc_play.proofs.ground.Ground.stored.Goals as goal

pub returns-clause-few : goal.returns-clause-few
returns-clause-few c = rw c.stored.ensures.items
    (stocked_few c.self.inside.land.chests c.self.invariant.2 c.stored.ensures.inside)
