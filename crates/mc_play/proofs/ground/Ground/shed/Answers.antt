use Rattle.std.proofs.Common.{subst, sym}
use Rattle.mc_play.proofs.States.{IsOurs}
use Rattle.mc_play.proofs.ground.Ground.shed.Goals as goal

pub invariant_of-self : goal.invariant_of-self
invariant_of-self c = subst (IsOurs c.self.inside.terrain) (sym c.shed.ensures) c.self.invariant
