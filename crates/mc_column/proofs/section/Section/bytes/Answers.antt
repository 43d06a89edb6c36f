use Rattle.std.proofs.Common.{sym, ◌∙◌}
use Rattle.mc_column.specs.Sizes.{section_cells}
use Rattle.mc_column.proofs.KeptFacts.{kept_length}
use Rattle.mc_column.proofs.Pairs.{wire-paired}
use Rattle.mc_column.proofs.section.Section.bytes.Goals as goal

pub returns-clause-states : goal.returns-clause-states
returns-clause-states c =
    c.as_slice.ensures.value ∙
    rw (← c.self.view_is) (sym (wire-paired _ section_cells c.self.invariant.sized
    c.self.invariant.are_bytes))

pub returns-clause-len : goal.returns-clause-len
returns-clause-len c = rw (← c.self.view_is) (kept_length _ _ c.self.invariant)
