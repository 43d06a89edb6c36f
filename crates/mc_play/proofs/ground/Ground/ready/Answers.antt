use Rattle.mc_play.proofs.States.{ready_ours}
use Rattle.mc_play.proofs.ground.Ground.ready.Goals as goal

pub invariant_of-self : goal.invariant_of-self
invariant_of-self c = ready_ours c.self.inside.terrain c.self.inside.land c.self.invariant
    _ c.ready.new.self c.ready.result c.ready.ensures.ok c.ready.ensures.err
