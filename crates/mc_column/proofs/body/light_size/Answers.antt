use Rattle.std.proofs.Common.{refl}
use Rattle.mc_column.specs.SizesLaws.{light_bytes-is}
use Rattle.mc_column.proofs.body.light_size.Goals as goal

pub returns : goal.returns
returns c = rw (c.named_count.ensures.value, light_bytes-is) refl
