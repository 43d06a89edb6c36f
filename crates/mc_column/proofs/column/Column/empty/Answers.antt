use Rattle.std.proofs.Common.{ℕ, ap, length, ◌∙◌}
use Rattle.std.proofs.lemmas.List.{length-replicate}
use Rattle.mc_column.proofs.column.Column.empty.Goals as goal

pub with_biomes-requires : goal.with_biomes-requires
with_biomes-requires c = ap length c.in_ok-copies.ensures ∙ length-replicate {A = ℕ} _ c.args.biome
    ∙ c.biomes_of_column.ensures
