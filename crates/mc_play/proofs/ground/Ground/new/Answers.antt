use Rattle.mc_play.proofs.States.{new_states}
use Rattle.mc_play.proofs.ground.Ground.new.Goals as goal

pub invariant_of-result : goal.invariant_of-result
invariant_of-result c = new_states c.args.terrain c.new.result c.new.ensures
