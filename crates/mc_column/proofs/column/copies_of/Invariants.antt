use Rattle.std.proofs.Common.{◌≡◌, take}
use Rattle.mc_column.proofs.column.copies_of.Given as goal

abbrev pub invariant-loop-section : goal.invariant-loop-section
invariant-loop-section l = l.copies.items ≡ take l.section-index l.sections.items
