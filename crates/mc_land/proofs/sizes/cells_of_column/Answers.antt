use Rattle.std.proofs.Common.{arith}
use Rattle.mc_column.specs.SizesLaws.{cells-is}
use Rattle.mc_land.proofs.sizes.cells_of_column.Goals as goal

pub returns : goal.returns
returns c = omega (arith, cells-is)
