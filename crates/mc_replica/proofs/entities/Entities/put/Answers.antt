use Rattle.std.proofs.Common.{rules, ◌∙◌, ap}
use Rattle.std.specs.List.{insert}
use Rattle.std.specs.Ordering.{int_cmp}
use Rattle.std.specs.Cmp.{int_cmp_total}
use Rattle.std.specs.FinMap.{from_sorted, int_cmp-IsAntisymmetric}
use Rattle.mc_replica.proofs.Rows.{map_insert, map_set, rises_insert, rises_set}
use Rattle.mc_replica.proofs.entities.Entities.put.Goals as goal

pub invariant_of-self : goal.invariant_of-self
invariant_of-self c =
    rw (c.replace.ensures.after, c.new.ensures) (rises_set int_cmp int_cmp_total
    int_cmp-IsAntisymmetric c.self.inside.rows.items c.in-Ok.at c.args.eid.now c.args.looks
    c.self.invariant (search rules))

pub invariant_of-self-in-Err : goal.invariant_of-self-in-Err
invariant_of-self-in-Err c =
    rw (c.in_ok-insert-in-Err.ensures.items, c.new-in-Err.ensures) (rises_insert int_cmp
    int_cmp_total int_cmp-IsAntisymmetric c.self.inside.rows.items c.in-Err.at c.args.eid.now
    c.args.looks c.self.invariant (search rules))

pub returns-in-Ok-clause-ok : goal.returns-in-Ok-clause-ok
returns-in-Ok-clause-ok c =
    rw (← c.self.view_is, c.replace.ensures.after, c.new.ensures) (map_set int_cmp int_cmp_total
    int_cmp-IsAntisymmetric c.self.inside.rows.items c.in-Ok.at c.args.eid.now c.args.looks
    c.self.invariant (search rules))

pub returns-in_ok-insert-in-Err-clause-ok : goal.returns-in_ok-insert-in-Err-clause-ok
returns-in_ok-insert-in-Err-clause-ok c =
    let items = c.in_ok-insert-in-Err.ensures.items
    ∙ ap (insert c.self.inside.rows.items c.in-Err.at) c.new-in-Err.ensures in
    rw (← c.self.view_is) (ap (from_sorted {R = int_cmp}) items ∙ map_insert int_cmp
    int_cmp_total int_cmp-IsAntisymmetric c.self.inside.rows.items c.in-Err.at c.args.eid.now
    c.args.looks c.self.invariant (search rules))
