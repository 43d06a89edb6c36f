use Rattle.mc_column.proofs.LightFacts.{AreZero}
use Rattle.mc_column.proofs.light.are_zero.Given as goal

abbrev pub invariant-loop-byte : goal.invariant-loop-byte
invariant-loop-byte l = AreZero l.bytes l.any l.byte-index
