use Rattle.std.proofs.Common.{arith}
use Rattle.mc_column.specs.SizesLaws.{section_count-is}
use Rattle.mc_column.proofs.mask.names.Goals as goal

pub overflow_cast-result : goal.overflow_cast-result
overflow_cast-result c = omega (arith, section_count-is)

pub overflow_shr-result : goal.overflow_shr-result
overflow_shr-result c = omega (arith, section_count-is)
