use Rattle.std.proofs.Common.{◌∙◌, sym}
use Rattle.std.specs.Ordering.{int_cmp}
use Rattle.std.specs.FinMap.{entries-from_sorted}
use Rattle.mc_replica.proofs.entities.Entities.all.Goals as goal

pub returns : goal.returns
returns c = rw (← c.self.view_is) (c.as_slice.ensures.value
    ∙ sym (entries-from_sorted int_cmp c.self.inside.rows.items c.self.invariant))
