use Rattle.mc_column.specs.Body.{is_named}
use Rattle.mc_column.specs.KeptColumn.{nth_section}
use Rattle.mc_column.proofs.WriteFacts.{AreAppended}
use Rattle.mc_column.proofs.write.append_blocks.Given as goal

abbrev pub invariant-loop-i : goal.invariant-loop-i
invariant-loop-i l = AreAppended (is_named l.mask) (nth_section l.sections.items) l.fn.out l.out l.i
