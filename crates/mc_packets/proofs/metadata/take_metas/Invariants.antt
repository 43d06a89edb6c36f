use Rattle.std.proofs.Common.{length}
use Rattle.mc_bytes.proofs.Loops.{IsUnderway}
use Rattle.mc_packets.specs.Metadata.{entry_read, meta_read}
use Rattle.mc_packets.proofs.metadata.take_metas.Given as goal

abbrev pub invariant-loop-metas : goal.invariant-loop-metas
invariant-loop-metas l = IsUnderway entry_read l.metas l.cursor (meta_read l.fn.cursor)

abbrev pub decreases-loop-metas : goal.decreases-loop-metas
decreases-loop-metas l = length l.cursor
