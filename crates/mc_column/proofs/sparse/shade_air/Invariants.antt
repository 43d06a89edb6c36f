use Rattle.std.proofs.Common.{ℕ, replicate}
use Rattle.mc_column.specs.Sizes.{section_cells}
use Rattle.mc_column.proofs.LightFacts.{AreShaded}
use Rattle.mc_column.proofs.sparse.shade_air.Given as goal

-- the layers from y on are lit
abbrev pub invariant-loop-y : goal.invariant-loop-y
invariant-loop-y l = AreShaded (replicate {A = ℕ} section_cells 0) l.light l.light l.sky l.y
