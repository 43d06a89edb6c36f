use Rattle.std.proofs.Common.{rules, ◌≡◌, sym, get_or}
use Rattle.mc_land.specs.Places.{place_cmp}
use Rattle.mc_land.proofs.Orders.{exact_places, places_total}
use Rattle.mc_replica.proofs.Rows.{got_gap, got_over}
use Rattle.mc_replica.proofs.columns.Columns.find.Goals as goal

pub returns-in-Ok : goal.returns-in-Ok
returns-in-Ok c =
    let rows = c.self.inside.rows.items in
    let was = c.index.result.now in
    let read : was ≡ get_or rows c.in-Ok.at was = search rules in
    rw (← c.self.view_is) (got_over place_cmp places_total exact_places rows c.args.place.now
    c.in-Ok.at was c.self.invariant (search rules) read)

pub returns-in-Err : goal.returns-in-Err
returns-in-Err c =
    rw (← c.self.view_is) (sym (got_gap place_cmp places_total exact_places
    c.self.inside.rows.items c.args.place.now c.in-Err.field-0 c.self.invariant (search rules)))
