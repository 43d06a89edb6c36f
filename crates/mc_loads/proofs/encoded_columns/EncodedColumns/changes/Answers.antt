use Rattle.std.proofs.Common.{◌∙◌, sym}
use Rattle.std.specs.FinMap.{get-from_entries}
use Rattle.mc_land.specs.Places.{place_cmp}
use Rattle.mc_land.proofs.Orders.{places_total}
use Rattle.mc_bytes.proofs.Trees.{tree_found}
use Rattle.mc_loads.proofs.encoded_columns.EncodedColumns.changes.Goals as goal

pub returns : goal.returns
returns c =
    let es = c.self.inside.changes.entries in
    rw (← c.self.view_is) (c.get.ensures.value ∙ tree_found place_cmp c.args.place.now es
    ∙ sym (get-from_entries places_total es c.args.place.now))
