use Rattle.std.proofs.Common.{◌≡◌, ◌≤◌}
use Rattle.mc_column.specs.Body.{is_named}
use Rattle.mc_column.specs.Cells as cells
use Rattle.mc_column.proofs.mask.rank.Given as goal

abbrev pub invariant-loop-i : goal.invariant-loop-i
invariant-loop-i l = (l.count ≡ cells.rank (is_named l.mask) l.i) × (l.count ≤ l.i)
