use Rattle.std.proofs.Common.{drop}
use Rattle.mc_bytes.proofs.Appends.{IsWritingUntil}
use Rattle.mc_packets.specs.Metadata.{head_of, entry_of_head}
use Rattle.mc_packets.proofs.metadata.append_entries.Given as goal

abbrev pub invariant-loop-entry : goal.invariant-loop-entry
invariant-loop-entry l = IsWritingUntil 127 head_of entry_of_head (drop l.entry-index l.entries)
    l.entries l.fn.out.items l.out.items
