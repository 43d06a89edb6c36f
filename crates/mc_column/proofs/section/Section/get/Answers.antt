use Rattle.std.proofs.Common.{length, ap, arith}
use Rattle.mc_column.specs.SizesLaws.{section_cells-is}
use Rattle.mc_column.proofs.section.Section.get.Goals as goal

pub state_at-requires : goal.state_at-requires
state_at-requires c = omega (
  arith,
  c.self.invariant.sized,
  ap length c.deref.ensures.value,
  section_cells-is,
)
