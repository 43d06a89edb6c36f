use Rattle.std.proofs.Common.{rules, ◌∙◌, ap}
use Rattle.mc_land.specs.Places.{place_cmp}
use Rattle.mc_land.proofs.Orders.{exact_places, places_total}
use Rattle.std.specs.FinMap.{from_sorted}
use Rattle.mc_replica.proofs.Rows.{map_none, map_remove, rises_remove}
use Rattle.mc_replica.proofs.columns.Columns.remove.Goals as goal

pub invariant_of-self : goal.invariant_of-self
invariant_of-self c =
    rw c.remove.ensures.items (rises_remove place_cmp places_total exact_places
    c.self.inside.rows.items c.args.place.now c.in-Ok.at c.self.invariant (search rules))

pub returns-in-Ok : goal.returns-in-Ok
returns-in-Ok c =
    rw (← c.self.view_is) (ap (from_sorted {R = place_cmp}) c.remove.ensures.items
    ∙ map_remove place_cmp places_total exact_places c.self.inside.rows.items
    c.args.place.now c.in-Ok.at c.self.invariant (search rules))

pub returns-in_default : goal.returns-in_default
returns-in_default c =
    rw (← c.self.view_is) (map_none place_cmp places_total exact_places
    c.self.inside.rows.items c.args.place.now c.in_default.field-0 c.self.invariant (search rules))
