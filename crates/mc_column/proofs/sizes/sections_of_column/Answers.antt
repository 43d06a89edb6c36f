use Rattle.std.proofs.Common.{sym}
use Rattle.mc_column.specs.SizesLaws.{section_count-is}
use Rattle.mc_column.proofs.sizes.sections_of_column.Goals as goal

pub returns : goal.returns
returns c = sym section_count-is
