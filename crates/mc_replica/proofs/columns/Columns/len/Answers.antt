use Rattle.std.proofs.Common.{◌∙◌, sym, ap, length}
use Rattle.std.specs.FinMap.{entries-from_sorted, from_sorted, len-entries}
use Rattle.mc_land.specs.Places.{place_cmp}
use Rattle.mc_replica.proofs.columns.Columns.len.Goals as goal

pub returns : goal.returns
returns c =
    let rows = c.self.inside.rows.items in
    rw (← c.self.view_is) (ap length c.as_slice.ensures.value
    ∙ ap length (sym (entries-from_sorted place_cmp rows c.self.invariant))
    ∙ sym (len-entries (from_sorted {R = place_cmp} rows)))
