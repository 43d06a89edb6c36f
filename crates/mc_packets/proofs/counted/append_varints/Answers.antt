use Rattle.std.proofs.Common.{rules}
use Rattle.mc_bytes.specs.Format.{Anything}
use Rattle.mc_bytes.proofs.Appends.{writing_next, writing_done}
use lib.IntN.{pos}
use Rattle.mc_fields.specs.VarintFormat.{var_int}
use Rattle.mc_packets.proofs.counted.append_varints.Goals as goal

pub loop-item-preserved : goal.loop-item-preserved
loop-item-preserved c =
    writing_next (var_int {Rest = Anything}) c.args.items.now c.loop-item.item-index (pos 0)
    c.args.out.now.items c.loop-item.out.items c.write_varint.new.out.items
    c.loop-item-test.true (search rules) c.loop-item.invariant

pub returns-clause-ok : goal.returns-clause-ok
returns-clause-ok c = writing_done (var_int {Rest = Anything}) c.args.items.now
    c.loop-item.item-index c.args.out.now.items c.loop-item.out.items c.loop-item-test.false
    c.loop-item.invariant
