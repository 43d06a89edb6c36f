use Rattle.std.proofs.Common.{◌≡◌, true}
use Rattle.mc_vectors.proofs.links.steps.Given as goal

-- it is connected before each step
abbrev pub invariant-loop : goal.invariant-loop
invariant-loop g l = (g.K.Link.stage l.link).connected ≡ true
