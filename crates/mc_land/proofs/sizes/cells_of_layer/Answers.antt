use Rattle.std.proofs.Common.{arith}
use Rattle.mc_column.specs.SizesLaws.{squares-is}
use Rattle.mc_land.proofs.sizes.cells_of_layer.Goals as goal

pub returns : goal.returns
returns c = omega (arith, squares-is)
