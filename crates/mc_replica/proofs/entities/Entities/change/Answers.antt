use Rattle.std.proofs.Common.{rules, ◌≡◌, ◌∙◌, ap, get_or, set}
use Rattle.std.specs.Ordering.{int_cmp}
use Rattle.std.specs.Cmp.{int_cmp_total}
use Rattle.std.specs.FinMap.{from_sorted, int_cmp-IsAntisymmetric}
use lib.IntN.{ℤ}
use Rattle.mc_model.specs.Sight.{Seen}
use Rattle.mc_replica.specs.Changes.{changed}
use Rattle.mc_replica.proofs.Rows.{altered_at, altered_gap, rises_over}
use Rattle.mc_replica.proofs.entities.Entities.change.Goals as goal

pub invariant_of-self : goal.invariant_of-self
invariant_of-self c =
    let rows = c.self.inside.rows.items in
    let was : ℤ × Seen = (c.behind-self.inside.eid, c.behind-self.inside.looks) in
    let read : was ≡ get_or rows c.in-Ok.at was = search rules in
    rises_over int_cmp int_cmp_total int_cmp-IsAntisymmetric rows c.args.eid.now c.in-Ok.at was
    c.change.new.self c.self.invariant (search rules) read

pub invariant_of-self-in_err-change : goal.invariant_of-self-in_err-change
invariant_of-self-in_err-change c =
    let rows = c.self.inside.rows.items in
    let was : ℤ × Seen = (c.behind-self.inside.eid, c.behind-self.inside.looks) in
    let read : was ≡ get_or rows c.in-Ok.at was = search rules in
    rises_over int_cmp int_cmp_total int_cmp-IsAntisymmetric rows c.args.eid.now c.in-Ok.at was
    c.change.new.self c.self.invariant (search rules) read

pub returns-in_ok-change : goal.returns-in_ok-change
returns-in_ok-change c =
    let rows = c.self.inside.rows.items in
    let was : ℤ × Seen = (c.behind-self.inside.eid, c.behind-self.inside.looks) in
    let read : was ≡ get_or rows c.in-Ok.at was = search rules in
    rw (← c.self.view_is)
    (ap (λ (e : Seen). from_sorted {R = int_cmp} (set rows c.in-Ok.at (was.0, e)))
    c.in_ok-change.ensures
    ∙ altered_at int_cmp int_cmp_total int_cmp-IsAntisymmetric rows c.args.eid.now c.in-Ok.at was
    (changed c.args.packet.now) c.self.invariant (search rules) read)

pub returns-in_default : goal.returns-in_default
returns-in_default c =
    rw (← c.self.view_is) (altered_gap int_cmp int_cmp_total int_cmp-IsAntisymmetric
    c.self.inside.rows.items c.args.eid.now c.in_default.field-0 (changed c.args.packet.now)
    c.self.invariant (search rules))
