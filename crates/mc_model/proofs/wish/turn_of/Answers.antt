use Rattle.mc_model.proofs.FloorFacts.{turn_is}
use Rattle.mc_model.proofs.wish.turn_of.Goals as goal

pub returns : goal.returns
returns c = turn_is c.args.pattern c.angle.result c.angle.ensures.none c.angle.ensures.some
