use Rattle.std.proofs.Common.{rules}
use Rattle.mc_bytes.specs.Format.{Anything}
use Rattle.mc_bytes.proofs.Appends.{writing_next, writing_done}
use Rattle.mc_fields.specs.Integers.{float}
use Rattle.mc_packets.proofs.metadata.append_floats.Goals as goal

pub loop-pattern-preserved : goal.loop-pattern-preserved
loop-pattern-preserved c =
    writing_next (float {Rest = Anything}) c.args.patterns.now c.loop-pattern.pattern-index 0
    c.args.out.now.items c.loop-pattern.out.items c.write_u32.new.out.items
    c.loop-pattern-test.true (search rules) c.loop-pattern.invariant

pub returns-clause-ok : goal.returns-clause-ok
returns-clause-ok c = writing_done (float {Rest = Anything}) c.args.patterns.now
    c.loop-pattern.pattern-index c.args.out.now.items c.loop-pattern.out.items
    c.loop-pattern-test.false c.loop-pattern.invariant
