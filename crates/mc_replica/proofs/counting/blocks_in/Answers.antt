use Rattle.std.proofs.Common.{arith}
use Rattle.mc_replica.proofs.Sections.{all_in, more_in}
use Rattle.mc_replica.proofs.counting.blocks_in.Goals as goal

pub loop-i-preserved : goal.loop-i-preserved
loop-i-preserved c = (
  more_in c.args.column.now.states c.loop-i.i c.loop-i.count c.blocks_at-count.result
      c.loop-i.invariant.0 c.blocks_at-count.ensures.value,
  omega (arith, c.loop-i.invariant.1, c.blocks_at-count.ensures.few),
)

pub returns : goal.returns
returns c =
    all_in c.args.column.now.states c.loop-i.i c.loop-i.count c.sent_mask-mask.ensures.sizes.states_are
    (omega (arith, c.loop-i-test.false)) c.loop-i.invariant.0
