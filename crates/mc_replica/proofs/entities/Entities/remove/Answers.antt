use Rattle.std.proofs.Common.{rules, ◌∙◌, ap}
use Rattle.std.specs.Ordering.{int_cmp}
use Rattle.std.specs.Cmp.{int_cmp_total}
use Rattle.std.specs.FinMap.{from_sorted, int_cmp-IsAntisymmetric}
use Rattle.mc_replica.proofs.Rows.{map_none, map_remove, rises_remove}
use Rattle.mc_replica.proofs.entities.Entities.remove.Goals as goal

pub invariant_of-self : goal.invariant_of-self
invariant_of-self c =
    rw c.remove.ensures.items (rises_remove int_cmp int_cmp_total int_cmp-IsAntisymmetric
    c.self.inside.rows.items c.args.eid.now c.in-Ok.at c.self.invariant (search rules))

pub returns-in-Ok : goal.returns-in-Ok
returns-in-Ok c =
    rw (← c.self.view_is) (ap (from_sorted {R = int_cmp}) c.remove.ensures.items
    ∙ map_remove int_cmp int_cmp_total int_cmp-IsAntisymmetric c.self.inside.rows.items
    c.args.eid.now c.in-Ok.at c.self.invariant (search rules))

pub returns-in_default : goal.returns-in_default
returns-in_default c =
    rw (← c.self.view_is) (map_none int_cmp int_cmp_total int_cmp-IsAntisymmetric
    c.self.inside.rows.items c.args.eid.now c.in_default.field-0 c.self.invariant (search rules))
