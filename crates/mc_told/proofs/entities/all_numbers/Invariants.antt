use Rattle.std.proofs.Common.{◌≡◌, ◌-◌, take, length}
use Rattle.std.specs.FinMap.{keys}
use Rattle.mc_told.proofs.entities.all_numbers.Given as goal

-- the first numbers were put
abbrev pub invariant-loop-eid : goal.invariant-loop-eid
invariant-loop-eid l = l.eids.items ≡ take l.i (keys l.told)

abbrev pub decreases-loop-eid : goal.decreases-loop-eid
decreases-loop-eid l = length (keys l.told) - l.i
