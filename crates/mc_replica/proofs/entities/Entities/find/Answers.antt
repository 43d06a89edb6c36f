use Rattle.std.proofs.Common.{rules, ◌≡◌, sym, ap, get_or}
use Rattle.std.specs.Option.{option_map}
use Rattle.std.specs.Ordering.{int_cmp}
use Rattle.std.specs.Cmp.{int_cmp_total}
use Rattle.std.specs.FinMap.{int_cmp-IsAntisymmetric}
use Rattle.mc_model.specs.Sight.{Seen}
use Rattle.mc_replica.proofs.Rows.{found_at, got_gap}
use Rattle.mc_replica.proofs.entities.Entities.find.Goals as goal

pub returns-in-Ok : goal.returns-in-Ok
returns-in-Ok c =
    let read : c.index.result.now ≡ get_or c.self.inside.rows.items c.in-Ok.at c.index.result.now =
    search rules in
    rw (← c.self.view_is) (found_at int_cmp int_cmp_total int_cmp-IsAntisymmetric
    c.self.inside.rows.items c.args.eid.now c.in-Ok.at c.index.result.now c.self.invariant
    (search rules) read)

pub returns-in-Err : goal.returns-in-Err
returns-in-Err c =
    rw (← c.self.view_is) (ap (option_map (λ (e : Seen). (c.args.eid.now, e)))
    (sym (got_gap int_cmp int_cmp_total int_cmp-IsAntisymmetric c.self.inside.rows.items
    c.args.eid.now c.in-Err.field-0 c.self.invariant (search rules))))
