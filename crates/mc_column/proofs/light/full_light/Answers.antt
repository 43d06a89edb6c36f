use Rattle.std.proofs.Common.{refl}
use Rattle.mc_column.specs.SizesLaws.{row_bytes-is}
use Rattle.mc_column.proofs.light.full_light.Goals as goal

pub returns : goal.returns
returns c = rw row_bytes-is refl
