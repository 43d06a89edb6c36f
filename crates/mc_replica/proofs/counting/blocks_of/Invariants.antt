use Rattle.std.proofs.Common.{◌≡◌, ◌≤◌, take}
use Rattle.mc_column.specs.Kept.{blocks_in}
use Rattle.mc_replica.proofs.counting.blocks_of.Given as goal

abbrev pub invariant-loop-i : goal.invariant-loop-i
invariant-loop-i l = (l.count ≡ blocks_in (take l.i l.section)) × (l.count ≤ l.i)
