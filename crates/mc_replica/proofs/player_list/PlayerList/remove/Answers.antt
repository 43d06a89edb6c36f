use Rattle.std.proofs.Common.{rules, ◌∙◌, ap, List}
use Rattle.std.specs.Ordering.{nat_cmp}
use Rattle.std.specs.FinMap.{from_sorted, nat_cmp-IsAntisymmetric}
use Rattle.std.proofs.lemmas.Cmp.{nat_cmp_total}
use Rattle.mc_replica.specs.declared.player_list.Listed.{Listed}
use Rattle.mc_replica.specs.KeptPlayers.{rows_of}
use Rattle.mc_replica.proofs.PlayerRows.{removed}
use Rattle.mc_replica.proofs.Rows.{map_none, map_remove, rises_remove}
use Rattle.mc_replica.proofs.player_list.PlayerList.remove.Goals as goal

pub invariant_of-self : goal.invariant_of-self
invariant_of-self c =
    let rows = c.self.inside.rows.items in
    rw (c.remove.ensures.items, removed rows c.in-Ok.at) (rises_remove nat_cmp
    nat_cmp_total nat_cmp-IsAntisymmetric (rows_of rows) c.args.uuid.now c.in-Ok.at c.self.invariant (search rules))

pub returns-in-Ok : goal.returns-in-Ok
returns-in-Ok c =
    let rows = c.self.inside.rows.items in
    rw (← c.self.view_is)
    (ap (λ (rows : List Listed). from_sorted {R = nat_cmp} (rows_of rows)) c.remove.ensures.items
    ∙ ap (from_sorted {R = nat_cmp}) (removed rows c.in-Ok.at)
    ∙ map_remove nat_cmp nat_cmp_total nat_cmp-IsAntisymmetric (rows_of rows)
    c.args.uuid.now c.in-Ok.at c.self.invariant (search rules))

pub returns-in_default : goal.returns-in_default
returns-in_default c =
    rw (← c.self.view_is) (map_none nat_cmp nat_cmp_total nat_cmp-IsAntisymmetric
    (rows_of c.self.inside.rows.items) c.args.uuid.now c.in_default.field-0 c.self.invariant
    (search rules))
