use Rattle.std.proofs.Common.{arith}
use Rattle.mc_column.specs.SizesLaws.{section_cells-is}
use Rattle.mc_column.proofs.sizes.bytes_of_section.Goals as goal

pub returns : goal.returns
returns c = omega (arith, section_cells-is)
