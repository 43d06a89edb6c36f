use Rattle.std.proofs.Common.{rules, nat_lt}
use Rattle.std.proofs.lemmas.List.Sorted.{IsPartitionPoint-from_clause}
use Rattle.mc_land.specs.declared.ready.Touched.{Touched}
use Rattle.mc_land.proofs.ready.rank.Goals as goal

pub returns-clause-point : goal.returns-clause-point
returns-clause-point c = IsPartitionPoint-from_clause (λ (cell : Touched). nat_lt cell.index
    c.args.index) _ _ c.partition_point.ensures.partitioned c.requires (search rules)
