use Rattle.mc_column.specs.Cells.{paired}
use Rattle.mc_column.proofs.LightFacts.{AreDimmed}
use Rattle.mc_column.proofs.light.dim_cells.Given as goal

abbrev pub invariant-loop-j : goal.invariant-loop-j
invariant-loop-j l = AreDimmed l.fn.light (paired l.layer) l.light l.j
