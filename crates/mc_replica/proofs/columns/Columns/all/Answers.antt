use Rattle.std.proofs.Common.{◌∙◌, sym}
use Rattle.std.specs.FinMap.{entries-from_sorted}
use Rattle.mc_land.specs.Places.{place_cmp}
use Rattle.mc_replica.proofs.columns.Columns.all.Goals as goal

pub returns : goal.returns
returns c = rw (← c.self.view_is) (c.as_slice.ensures.value
    ∙ sym (entries-from_sorted place_cmp c.self.inside.rows.items c.self.invariant))
