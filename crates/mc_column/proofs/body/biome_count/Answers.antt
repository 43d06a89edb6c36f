use Rattle.std.proofs.Common.{sym}
use Rattle.mc_column.specs.SizesLaws.{squares-is}
use Rattle.mc_column.proofs.body.biome_count.Goals as goal

pub returns-then-ground_up-clause-value : goal.returns-then-ground_up-clause-value
returns-then-ground_up-clause-value c = rw c.if-ground_up.true (sym squares-is)
