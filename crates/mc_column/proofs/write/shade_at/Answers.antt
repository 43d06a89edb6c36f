use Rattle.std.proofs.Common.{◌∙◌}
use Rattle.mc_column.proofs.LightFacts.{row_through}
use Rattle.mc_column.proofs.write.shade_at.Goals as goal

pub returns-else-named-clause-lowest : goal.returns-else-named-clause-lowest
returns-else-named-clause-lowest c states i is lit =
    lit ∙ row_through states i (rw (← is) (c.requires.air c.if-named.false))
