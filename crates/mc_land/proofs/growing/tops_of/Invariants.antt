use Rattle.mc_land.proofs.GrownFacts.{AreTopsTo}
use Rattle.mc_land.proofs.growing.tops_of.Given as goal

-- the tops below i
abbrev pub invariant-loop-i : goal.invariant-loop-i
invariant-loop-i l = AreTopsTo l.terrain l.place l.tops.items l.i
