use Rattle.std.proofs.Common.{ℕ, replicate, sym, ap, ◌∙◌}
use Rattle.mc_column.proofs.KeptFacts.{air_or_zeros}
use Rattle.mc_column.proofs.sparse.kept.Goals as goal

pub returns-then-is_air-clause-states : goal.returns-then-is_air-clause-states
returns-then-is_air-clause-states c =
    sym (air_or_zeros c.args.section (c.is_air.ensures.value.0 c.if-is_air.true) ∙
    ap (λ (n : ℕ). replicate {A = ℕ} n 0) c.requires)
