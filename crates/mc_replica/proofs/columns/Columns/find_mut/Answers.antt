use Rattle.std.proofs.Common.{rules, ◌≡◌, sym, get_or, refl}
use Rattle.mc_land.specs.Places.{place_cmp}
use Rattle.mc_land.proofs.Orders.{exact_places, places_total}
use Rattle.mc_replica.proofs.Rows.{got_gap, got_over, lent_alike, map_over, rises_over}
use Rattle.mc_replica.proofs.columns.Columns.find_mut.Goals as goal

pub invariant_of-self-lent : goal.invariant_of-self-lent
invariant_of-self-lent c = λ w.
    let rows = c.self.inside.rows.items in
    let was = c.index_mut.result.now in
    let read : was ≡ get_or rows c.in-Ok.at was = search rules in
    rises_over place_cmp places_total exact_places rows c.args.place.now c.in-Ok.at was w
    c.self.invariant (search rules) read

pub returns-in-Ok : goal.returns-in-Ok
returns-in-Ok c =
    let rows = c.self.inside.rows.items in
    let was = c.index_mut.result.now in
    let read : was ≡ get_or rows c.in-Ok.at was = search rules in
    rw (← c.self.view_is) (
      lent_alike _ _ _ (λ w. map_over place_cmp places_total exact_places rows c.args.place.now
          c.in-Ok.at was w c.self.invariant (search rules) read),
      record {
        lends = tt;
        is = got_over place_cmp places_total exact_places rows c.args.place.now c.in-Ok.at was
            c.self.invariant (search rules) read;
      },
    )

pub returns-in-Err : goal.returns-in-Err
returns-in-Err c = rw (← c.self.view_is) (
  refl,
  record {
    lends = tt;
    is = sym (got_gap place_cmp places_total exact_places c.self.inside.rows.items c.args.place.now
        c.in-Err.field-0 c.self.invariant (search rules));
  },
)
