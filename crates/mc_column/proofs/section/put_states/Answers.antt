use Rattle.std.proofs.Common.{refl, arith}
use Rattle.mc_column.proofs.SparseFacts.{written_none, written_more, written_all}
use Rattle.mc_column.proofs.section.put_states.Goals as goal

pub loop-i-init : goal.loop-i-init
loop-i-init c = written_none _ _ c.requires

pub loop-i-preserved : goal.loop-i-preserved
loop-i-preserved c = written_more _ c.loop-i.bytes c.loop-i.i _ _ c.loop-i-test.true
    c.loop-i.invariant refl refl

pub returns : goal.returns
returns c = written_all _ _ c.loop-i.i (omega (arith, c.loop-i-test.false)) c.loop-i.invariant
