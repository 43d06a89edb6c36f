use Rattle.std.proofs.Common.{arith}
use Rattle.mc_column.specs.SizesLaws.{squares-is}
use Rattle.mc_land.proofs.GrownFacts.{filled_all}
use Rattle.mc_land.proofs.growing.filled_in.Goals as goal

pub overflow_add-total : goal.overflow_add-total
overflow_add-total c = omega (
  arith,
  c.loop-top.invariant.1,
  c.reach_in-total.ensures.few,
  c.loop-top-test.true,
  c.requires.tops.sized,
  squares-is,
)

pub returns : goal.returns
returns c = filled_all c.args.terrain.now c.args.place.now c.args.tops.now c.args.i _ _ _
    c.loop-top.top-index c.requires.tops c.low_of-low.ensures (omega (arith, c.from.ensures))
    (omega (arith, c.loop-top-test.false)) c.loop-top.invariant.0
