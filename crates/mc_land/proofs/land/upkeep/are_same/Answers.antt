use Rattle.mc_land.proofs.UpkeepFacts.{same_views}
use Rattle.mc_land.proofs.land.upkeep.are_same.Goals as goal

pub returns : goal.returns
returns c = same_views c.args.old.now c.args.new.now _ c.eq.ensures
