use Rattle.mc_column.proofs.KeptFacts.{kept_zeros}
use Rattle.mc_column.proofs.Pairs.{paired-zeros}
use Rattle.mc_column.specs.Sizes.{section_cells}
use Rattle.mc_column.proofs.section.Section.air.Goals as goal

pub invariant_of-result : goal.invariant_of-result
invariant_of-result c = kept_zeros _ _ c.bytes_of_section.ensures c.in_ok-bytes.ensures

pub returns : goal.returns
returns c = rw (c.in_ok-bytes.ensures, c.bytes_of_section.ensures) (paired-zeros section_cells)
