use Rattle.std.proofs.Common.{◌≡◌}
use Rattle.mc_land.specs.KeptLand.{IsIndexed}
use Rattle.mc_land.proofs.UpkeepFacts.{settled_one_by_one}
use Rattle.mc_land.proofs.land.settle_touched.Given as goal

-- settling those that are left settles what settling all of them does
abbrev pub invariant-loop-place : goal.invariant-loop-place
invariant-loop-place l =
    (settled_one_by_one l.place-iterator l.columns.items ≡
    settled_one_by_one l.touched.keys l.fn.columns.items)
    × IsIndexed l.columns.items l.index.entries
