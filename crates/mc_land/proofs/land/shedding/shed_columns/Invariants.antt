use Rattle.mc_land.specs.KeptLand.{IsIndexed}
use Rattle.mc_land.specs.ShedCode.{AreShed}
use Rattle.mc_land.proofs.land.shedding.shed_columns.Given as goal

-- the columns from i on stay
abbrev pub invariant-loop-i : goal.invariant-loop-i
invariant-loop-i l = IsIndexed l.columns.items l.index.entries × AreShed l.views l.fn.columns.items
    l.columns.items l.i
