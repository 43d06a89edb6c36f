use Rattle.std.proofs.Common.{ap, ◌∙◌, arith}
use Rattle.std.proofs.lemmas.List.{take_all}
use Rattle.mc_column.specs.Kept.{blocks_in}
use Rattle.mc_column.specs.SizesLaws.{section_cells-is}
use Rattle.mc_replica.proofs.counting.blocks_of.Goals as goal

pub returns-clause-value : goal.returns-clause-value
returns-clause-value c =
    let all = take_all c.loop-i.i c.args.section.now (omega (
      arith,
      section_cells-is,
      c.requires,
      c.loop-i-test.false,
    )) in
    c.loop-i.invariant.0 ∙ ap blocks_in all
