use Rattle.std.proofs.Common.{arith, ◌∙◌, refl}
use Rattle.mc_column.specs.SizesLaws.{section_count-is}
use Rattle.mc_column.proofs.body.named_count.Goals as goal

pub returns : goal.returns
returns c = record {
  value = c.rank.ensures.value ∙ rw c.sections_of_column.ensures refl;
  most = omega (arith, c.rank.ensures.most, c.sections_of_column.ensures, section_count-is);
}
