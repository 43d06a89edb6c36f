use Rattle.std.proofs.Common.{◌∙◌, arith}
use Rattle.mc_column.specs.SizesLaws.{light_bytes-is, light-layers}
use Rattle.mc_column.proofs.Parts.{part_within}
use Rattle.mc_column.proofs.light.put_row.Goals as goal

pub overflow_mul-from : goal.overflow_mul-from
overflow_mul-from c =
    omega (
      arith,
      part_within _ _ _ _ _ c.requires.inside c.bytes_of_row-size.ensures
          (c.requires.sky_is ∙ light-layers),
      c.requires.sky_is,
      light_bytes-is,
    )

pub overflow_add-from : goal.overflow_add-from
overflow_add-from c =
    omega (
      arith,
      part_within _ _ _ _ _ c.requires.inside c.bytes_of_row-size.ensures
          (c.requires.sky_is ∙ light-layers),
      c.requires.sky_is,
      light_bytes-is,
    )

pub slice_bounds-copy_from_slice-end : goal.slice_bounds-copy_from_slice-end
slice_bounds-copy_from_slice-end c =
    omega (
      arith,
      part_within _ _ _ _ _ c.requires.inside c.bytes_of_row-size.ensures
          (c.requires.sky_is ∙ light-layers),
    )
