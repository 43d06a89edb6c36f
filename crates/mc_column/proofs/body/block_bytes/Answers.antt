use Rattle.std.proofs.Common.{refl}
use Rattle.mc_column.specs.SizesLaws.{section_cells-is}
use Rattle.mc_column.proofs.body.block_bytes.Goals as goal

pub returns : goal.returns
returns c = rw (c.named_count.ensures.value, section_cells-is) refl
