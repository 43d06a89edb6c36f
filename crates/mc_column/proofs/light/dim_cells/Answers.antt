use Rattle.std.proofs.Common.{arith}
use Rattle.mc_column.specs.SizesLaws.{row_bytes-is, squares-is}
use Rattle.mc_column.proofs.LightFacts.{dimmed_all}
use Rattle.mc_column.proofs.light.dim_cells.Goals as goal

pub dimmed_at-requires : goal.dimmed_at-requires
dimmed_at-requires c = omega (
  arith,
  c.requires.light_is,
  c.requires.layer_is,
  row_bytes-is,
  squares-is,
  c.loop-j-test.true,
)

pub returns : goal.returns
returns c = dimmed_all _ _ _ c.loop-j.j c.loop-j.auto.light (omega (arith, c.loop-j-test.false))
    c.loop-j.invariant
