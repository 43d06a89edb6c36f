use Rattle.std.proofs.Common.{arith}
use Rattle.mc_land.proofs.GrownFacts.{tops_none, tops_more, tops_all}
use Rattle.mc_land.proofs.growing.tops_of.Goals as goal

pub loop-i-init : goal.loop-i-init
loop-i-init c = tops_none _ _ _ c.in_ok-tops.ensures.items

pub loop-i-preserved : goal.loop-i-preserved
loop-i-preserved c = tops_more _ _ c.loop-i.tops.items _ c.loop-i.i c.top_at.result
    c.loop-i.invariant c.in_ok-push.ensures.items c.top_at.ensures.at c.top_at.ensures.reach
    c.top_at.ensures.small c.top_at.ensures.low c.top_at.ensures.high

pub returns : goal.returns
returns c = tops_all _ _ _ c.loop-i.i (omega (
  arith,
  c.loop-i-test.false,
  c.loop-i.auto.i-end,
  c.cells_of_layer-count.ensures,
)) c.loop-i.invariant
