use Rattle.std.proofs.Common.{rules, pos}
use Rattle.mc_bytes.specs.Format.{Anything}
use Rattle.mc_bytes.proofs.Appends.{writing_next, writing_done}
use Rattle.mc_fields.specs.Integers.{int}
use Rattle.mc_packets.proofs.metadata.append_ints.Goals as goal

pub loop-number-preserved : goal.loop-number-preserved
loop-number-preserved c =
    writing_next (int {Rest = Anything}) c.args.numbers.now c.loop-number.number-index (pos 0)
    c.args.out.now.items c.loop-number.out.items c.write_i32.new.out.items
    c.loop-number-test.true (search rules) c.loop-number.invariant

pub returns-clause-ok : goal.returns-clause-ok
returns-clause-ok c = writing_done (int {Rest = Anything}) c.args.numbers.now
    c.loop-number.number-index c.args.out.now.items c.loop-number.out.items c.loop-number-test.false
    c.loop-number.invariant
