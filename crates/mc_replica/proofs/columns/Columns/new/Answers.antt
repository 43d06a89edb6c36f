use Rattle.std.proofs.Common.{◌∙◌, ap}
use Rattle.std.specs.FinMap.{from_sorted}
use Rattle.mc_land.specs.Places.{place_cmp}
use Rattle.mc_land.proofs.Orders.{exact_places, places_total}
use Rattle.mc_replica.proofs.Rows.{map_empty}
use Rattle.mc_replica.proofs.columns.Columns.new.Goals as goal

pub returns : goal.returns
returns c =
    ap (from_sorted {R = place_cmp}) c.new.ensures.items
    ∙ map_empty place_cmp places_total exact_places
