use Rattle.std.proofs.Common.{sym}
use Rattle.mc_column.specs.SizesLaws.{layer_count-is}
use Rattle.mc_column.proofs.sizes.layers_of_section.Goals as goal

pub returns : goal.returns
returns c = sym layer_count-is
