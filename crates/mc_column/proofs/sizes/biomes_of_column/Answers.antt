use Rattle.std.proofs.Common.{sym}
use Rattle.mc_column.specs.SizesLaws.{squares-is}
use Rattle.mc_column.proofs.sizes.biomes_of_column.Goals as goal

pub returns : goal.returns
returns c = sym squares-is
