use Rattle.mc_column.proofs.SparseFacts.{AreWritten}
use Rattle.mc_column.proofs.section.put_states.Given as goal

-- the bytes of the states below i are written
abbrev pub invariant-loop-i : goal.invariant-loop-i
invariant-loop-i l = AreWritten l.states l.bytes l.i
