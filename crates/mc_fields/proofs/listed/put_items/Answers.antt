use Rattle.std.proofs.Common.{rules}
use Rattle.mc_bytes.proofs.Appends.{writing_next, writing_done}
use Rattle.mc_fields.proofs.listed.put_items.Goals as goal

pub loop-item-preserved : goal.loop-item-preserved
loop-item-preserved g c =
    writing_next g.T.Field.format c.args.items.now c.loop-item.item-index c.item-item.result
    c.args.out.now.items c.loop-item.out.items c.put.new.out.items
    c.loop-item-test.true (search rules) c.loop-item.invariant

pub returns-clause-ok : goal.returns-clause-ok
returns-clause-ok g c =
    writing_done g.T.Field.format c.args.items.now c.loop-item.item-index
    c.args.out.now.items c.loop-item.out.items c.loop-item-test.false c.loop-item.invariant
