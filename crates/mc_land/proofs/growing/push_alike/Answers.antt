use Rattle.std.proofs.Common.{arith}
use Rattle.mc_column.specs.SizesLaws.{squares-is}
use Rattle.mc_land.proofs.growing.push_alike.Goals as goal

pub overflow_add-size : goal.overflow_add-size
overflow_add-size c = omega (
  arith,
  c.args.out.now.small,
  c.len.ensures,
  c.cells_of_layer.ensures,
  squares-is,
)
