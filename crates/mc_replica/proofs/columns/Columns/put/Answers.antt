use Rattle.std.proofs.Common.{rules, ◌≡◌, ◌∙◌, ap, get_or}
use Rattle.std.specs.FinMap.{from_sorted}
use Rattle.mc_land.specs.Places.{place_cmp}
use Rattle.mc_land.proofs.Orders.{exact_places, places_total}
use Rattle.mc_replica.proofs.Rows.{map_insert, map_over, rises_insert, rises_over}
use Rattle.mc_replica.proofs.columns.Columns.put.Goals as goal

pub invariant_of-self : goal.invariant_of-self
invariant_of-self c =
    let rows = c.self.inside.rows.items in
    let was = c.index_mut.result.now in
    let read : was ≡ get_or rows c.in-Ok.at was = search rules in
    rises_over place_cmp places_total exact_places rows c.args.place.now c.in-Ok.at was
    c.replace.new.dest c.self.invariant (search rules) read

pub invariant_of-self-in-Err : goal.invariant_of-self-in-Err
invariant_of-self-in-Err c =
    rw c.in_ok-insert-in-Err.ensures.items (rises_insert place_cmp places_total exact_places
    c.self.inside.rows.items c.in-Err.at c.args.place.now c.args.column c.self.invariant
    (search rules))

pub returns-in-Ok-clause-ok : goal.returns-in-Ok-clause-ok
returns-in-Ok-clause-ok c =
    let rows = c.self.inside.rows.items in
    let was = c.index_mut.result.now in
    let read : was ≡ get_or rows c.in-Ok.at was = search rules in
    rw (← c.self.view_is, c.replace.ensures.after) (map_over place_cmp places_total exact_places
    rows c.args.place.now c.in-Ok.at was c.args.column c.self.invariant (search rules) read)

pub returns-in_ok-insert-in-Err-clause-ok : goal.returns-in_ok-insert-in-Err-clause-ok
returns-in_ok-insert-in-Err-clause-ok c =
    rw (← c.self.view_is) (ap (from_sorted {R = place_cmp}) c.in_ok-insert-in-Err.ensures.items
    ∙ map_insert place_cmp places_total exact_places c.self.inside.rows.items c.in-Err.at
    c.args.place.now c.args.column c.self.invariant (search rules))
