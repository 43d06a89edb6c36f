use Rattle.std.proofs.Common.{◌∙◌, arith}
use Rattle.mc_column.specs.SizesLaws.{section_cells-is}
use Rattle.mc_column.proofs.Parts.{part_within, section_parts, layer_state}
use Rattle.mc_column.proofs.section.layer.Goals as goal

pub overflow_mul-from : goal.overflow_mul-from
overflow_mul-from c =
    omega (
      arith,
      part_within _ _ _ _ _ c.requires.inside c.bytes_of_layer-size.ensures
          (c.requires.whole ∙ section_parts),
      c.requires.whole,
      section_cells-is,
    )

pub overflow_add-result : goal.overflow_add-result
overflow_add-result c =
    omega (
      arith,
      part_within _ _ _ _ _ c.requires.inside c.bytes_of_layer-size.ensures
          (c.requires.whole ∙ section_parts),
      c.requires.whole,
      section_cells-is,
    )

pub slice_bounds-result-end : goal.slice_bounds-result-end
slice_bounds-result-end c =
    omega (
      arith,
      part_within _ _ _ _ _ c.requires.inside c.bytes_of_layer-size.ensures
          (c.requires.whole ∙ section_parts),
    )

pub returns-clause-states : goal.returns-clause-states
returns-clause-states c t lt = layer_state c.args.bytes.now c.args.y c.bytes_of_layer-size.result t
    c.bytes_of_layer-size.ensures lt
