use Rattle.mc_column.specs.Sizes.{section_count}
use Rattle.mc_column.specs.Body.{is_named}
use Rattle.mc_column.specs.Cells.{joined}
use Rattle.mc_column.specs.KeptColumn.{nth_section}
use Rattle.mc_column.proofs.WriteFacts.{IsSky}
use Rattle.mc_column.proofs.write.write_sky.Given as goal

abbrev pub invariant-loop-i : goal.invariant-loop-i
invariant-loop-i l = IsSky (is_named l.mask) (joined (nth_section l.sections.items) section_count)
    l.light l.sky l.i
