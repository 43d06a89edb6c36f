use Rattle.std.proofs.Common.{◌≡◌, ◌≤◌, take}
use Rattle.mc_column.specs.Cells.{paired}
use Rattle.mc_column.specs.Kept.{blocks_in}
use Rattle.mc_column.proofs.section.blocks.Given as goal

abbrev pub invariant-loop-i : goal.invariant-loop-i
invariant-loop-i l = (l.count ≡ blocks_in (take l.i (paired l.bytes))) × (l.count ≤ l.i)
