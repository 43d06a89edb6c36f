use Rattle.std.proofs.Common.{rules}
use Rattle.mc_bytes.proofs.Appends.{until_writing_next, until_writing_done}
use Rattle.mc_packets.specs.Metadata.{head_of, entry_of_head}
use Rattle.mc_packets.proofs.metadata.append_entries.Goals as goal

pub loop-entry-preserved : goal.loop-entry-preserved
loop-entry-preserved c =
    until_writing_next 127 head_of entry_of_head c.args.entries.now c.loop-entry.entry-index
    c.entry-item.result c.args.out.now.items c.loop-entry.out.items c.append_entry.new.out.items
    c.loop-entry-test.true (search rules) c.loop-entry.invariant

pub returns-clause-ok : goal.returns-clause-ok
returns-clause-ok c =
    until_writing_done 127 head_of entry_of_head c.args.entries.now c.loop-entry.entry-index
    c.args.out.now.items c.loop-entry.out.items c.write_u8.new.out.items c.loop-entry-test.false
    (search rules) c.loop-entry.invariant
