use Rattle.mc_model.proofs.FloorFacts.{fixed_is}
use Rattle.mc_model.proofs.wish.fixed_of.Goals as goal

pub returns : goal.returns
returns c = fixed_is c.args.pattern c.fixed.result c.fixed.ensures.none c.fixed.ensures.some
