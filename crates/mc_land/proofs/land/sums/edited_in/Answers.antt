use Rattle.std.proofs.Common.{arith}
use Rattle.mc_land.proofs.land.sums.edited_in.Goals as goal

pub overflow_add-total : goal.overflow_add-total
overflow_add-total c = omega (
  arith,
  c.loop-ready.invariant.1,
  c.edits.ensures.few,
  c.from-total.ensures,
  c.loop-ready-test.true,
  c.args.columns.now.small,
)
