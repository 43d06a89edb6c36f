use Rattle.mc_flush.proofs.Marks.{first_mark}
use Rattle.mc_flush.proofs.mark.Mark.new.Goals as goal

pub invariant_of-result : goal.invariant_of-result
invariant_of-result c = record { pack = (first_mark c.new-2.result).pack }
