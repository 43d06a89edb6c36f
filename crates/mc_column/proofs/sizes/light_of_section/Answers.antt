use Rattle.std.proofs.Common.{sym}
use Rattle.mc_column.specs.SizesLaws.{light_bytes-is}
use Rattle.mc_column.proofs.sizes.light_of_section.Goals as goal

pub returns : goal.returns
returns c = sym light_bytes-is
