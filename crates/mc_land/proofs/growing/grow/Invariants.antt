use Rattle.mc_land.specs.GrownCode.{IsGrown}
use Rattle.mc_land.proofs.growing.grow.Given as goal

-- the sections below i are the terrain's own
abbrev pub invariant-loop-i : goal.invariant-loop-i
invariant-loop-i l = IsGrown l.terrain l.place l.column l.i
