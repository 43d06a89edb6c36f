use Rattle.std.proofs.Common.{rules, ◌≡◌, ◌∙◌, ap, get_or, List, sym}
use Rattle.std.specs.Ordering.{nat_cmp}
use Rattle.std.specs.FinMap.{from_sorted, nat_cmp-IsAntisymmetric}
use Rattle.std.proofs.lemmas.Cmp.{nat_cmp_total}
use Rattle.mc_replica.specs.declared.player_list.Listed.{Listed}
use Rattle.mc_replica.specs.KeptPlayers.{row_of, rows_of}
use Rattle.std.proofs.lemmas.List.{map-set}
use Rattle.std.proofs.Math.ListN.{get_or-map}
use Rattle.mc_replica.proofs.PlayerRows.{inserted}
use Rattle.mc_replica.proofs.Rows.{map_insert, map_over, rises_insert, rises_over}
use Rattle.mc_replica.proofs.player_list.PlayerList.put.Goals as goal

pub invariant_of-self : goal.invariant_of-self
invariant_of-self c =
    let rows = c.self.inside.rows.items in
    let was = c.index_mut.result.now in
    let read : was ≡ get_or rows c.in-Ok.at was = search rules in
    rw (map-set row_of rows c.in-Ok.at (record was { name = c.replace.new.dest }))
    (rises_over nat_cmp nat_cmp_total nat_cmp-IsAntisymmetric (rows_of rows) c.args.uuid.now
    c.in-Ok.at (row_of was) c.replace.new.dest c.self.invariant (search rules)
    (ap row_of read ∙ sym (get_or-map row_of rows c.in-Ok.at was)))

pub invariant_of-self-in-Err : goal.invariant_of-self-in-Err
invariant_of-self-in-Err c =
    let rows = c.self.inside.rows.items in
    let new : Listed = record { uuid = c.args.uuid.now; name = c.args.name } in
    rw (c.in_ok-insert-in-Err.ensures.items, inserted rows c.in-Err.at new)
    (rises_insert nat_cmp nat_cmp_total nat_cmp-IsAntisymmetric (rows_of rows) c.in-Err.at
    c.args.uuid.now c.args.name c.self.invariant (search rules))

pub returns-in-Ok-clause-ok : goal.returns-in-Ok-clause-ok
returns-in-Ok-clause-ok c =
    let rows = c.self.inside.rows.items in
    let was = c.index_mut.result.now in
    let read : was ≡ get_or rows c.in-Ok.at was = search rules in
    rw (← c.self.view_is, c.replace.ensures.after)
    (ap (from_sorted {R = nat_cmp})
    (map-set row_of rows c.in-Ok.at (record was { name = c.args.name }))
    ∙ map_over nat_cmp nat_cmp_total nat_cmp-IsAntisymmetric (rows_of rows) c.args.uuid.now
    c.in-Ok.at (row_of was) c.args.name c.self.invariant (search rules)
    (ap row_of read ∙ sym (get_or-map row_of rows c.in-Ok.at was)))

pub returns-in_ok-insert-in-Err-clause-ok : goal.returns-in_ok-insert-in-Err-clause-ok
returns-in_ok-insert-in-Err-clause-ok c =
    let rows = c.self.inside.rows.items in
    let new : Listed = record { uuid = c.args.uuid.now; name = c.args.name } in
    rw (← c.self.view_is)
    (ap (λ (rows : List Listed). from_sorted {R = nat_cmp} (rows_of rows))
    c.in_ok-insert-in-Err.ensures.items
    ∙ ap (from_sorted {R = nat_cmp}) (inserted rows c.in-Err.at new)
    ∙ map_insert nat_cmp nat_cmp_total nat_cmp-IsAntisymmetric (rows_of rows) c.in-Err.at
    c.args.uuid.now c.args.name c.self.invariant (search rules))
