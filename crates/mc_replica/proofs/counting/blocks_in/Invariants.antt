use Rattle.std.proofs.Common.{◌≡◌, ◌≤◌, ◌*◌, take}
use Rattle.mc_column.specs.Kept.{blocks_in}
use Rattle.mc_column.specs.Sizes.{section_cells}
use Rattle.mc_replica.proofs.counting.blocks_in.Given as goal

abbrev pub invariant-loop-i : goal.invariant-loop-i
invariant-loop-i l =
    (l.count ≡ blocks_in (take (l.i * section_cells) l.column.states)) × (l.count ≤ 4096 * l.i)
