use Rattle.std.proofs.Common.{sym}
use Rattle.mc_column.specs.SizesLaws.{row_bytes-is}
use Rattle.mc_column.proofs.sizes.bytes_of_row.Goals as goal

pub returns : goal.returns
returns c = sym row_bytes-is
