use Rattle.mc_play.proofs.States.{set_states}
use Rattle.mc_play.proofs.ground.Ground.set.Goals as goal

pub invariant_of-self : goal.invariant_of-self
invariant_of-self c = set_states c.self.inside.terrain c.self.inside.land c.self.invariant
    c.args.cell c.args.state c.requires.inside c.requires.small c.requires.whole c.set.new.self c.set.result
    c.set.ensures.ok c.set.ensures.err
