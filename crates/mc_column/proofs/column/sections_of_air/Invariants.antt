use Rattle.std.proofs.Common.{◌≡◌, ℕ, replicate}
use Rattle.mc_column.specs.Sizes.{section_cells}
use Rattle.mc_column.proofs.column.sections_of_air.Given as goal

abbrev pub invariant-loop : goal.invariant-loop
invariant-loop l = l.sections.items ≡ replicate l.counter (replicate {A = ℕ} section_cells 0)
