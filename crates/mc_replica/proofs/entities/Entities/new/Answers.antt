use Rattle.std.proofs.Common.{◌∙◌, ap}
use Rattle.std.specs.Ordering.{int_cmp}
use Rattle.std.specs.FinMap.{from_sorted, int_cmp-IsAntisymmetric}
use Rattle.std.specs.Cmp.{int_cmp_total}
use Rattle.mc_replica.proofs.Rows.{map_empty}
use Rattle.mc_replica.proofs.entities.Entities.new.Goals as goal

pub returns : goal.returns
returns c =
    ap (from_sorted {R = int_cmp}) c.new.ensures.items
    ∙ map_empty int_cmp int_cmp_total int_cmp-IsAntisymmetric
