use Rattle.mc_column.proofs.ColumnFacts.{kept_air}
use Rattle.mc_column.proofs.column.Column.with_biomes.Goals as goal

pub invariant_of-result : goal.invariant_of-result
invariant_of-result c = (kept_air _ c.args.biomes.items _ c.sections_of_column.ensures c.requires
    c.in_ok-sections_of_air.ensures).0

pub returns : goal.returns
returns c = (kept_air _ c.args.biomes.items _ c.sections_of_column.ensures c.requires
    c.in_ok-sections_of_air.ensures).1
