use Rattle.std.proofs.Common.{ap, ◌∙◌, arith}
use Rattle.std.proofs.lemmas.List.{take_all}
use Rattle.mc_column.specs.Sizes.{section_cells}
use Rattle.mc_column.specs.SizesLaws.{section_cells-is}
use Rattle.mc_column.specs.Cells.{paired}
use Rattle.mc_column.specs.Kept.{blocks_in}
use Rattle.mc_column.proofs.Pairs.{length-paired}
use Rattle.mc_column.proofs.KeptFacts.{block_at_most}
use Rattle.mc_column.proofs.section.blocks.Goals as goal

pub overflow_add-count : goal.overflow_add-count
overflow_add-count c = omega (
  arith,
  c.loop-i.invariant.1,
  c.loop-i-test.true,
  c.requires,
  section_cells-is,
  c.block-count.ensures,
  block_at_most c.state_at.result,
)

pub returns : goal.returns
returns c =
    let len = length-paired c.args.bytes.now section_cells c.requires in
    let all = take_all c.loop-i.i (paired c.args.bytes.now) (omega (
      arith,
      len,
      c.requires,
      c.loop-i-test.false,
    )) in
    c.loop-i.invariant.0 ∙ ap blocks_in all
