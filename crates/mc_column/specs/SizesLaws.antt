-- The numbers that the sizes of a column are.
use Rattle.std.specs.Prelude.{◌≡◌, ◌*◌, refl}
use Rattle.mc_column.specs.Sizes.{section_count, section_cells, cells, squares, light_bytes}
use Rattle.mc_column.specs.Sizes.{row_bytes, layer_count}

pub section_count-is : section_count ≡ 16
unfolding section_count
section_count-is = refl

pub section_cells-is : section_cells ≡ 4096
unfolding section_cells
section_cells-is = refl

pub cells-is : cells ≡ 65536
unfolding cells
cells-is = refl

pub squares-is : squares ≡ 256
unfolding squares
squares-is = refl

pub light_bytes-is : light_bytes ≡ 2048
unfolding light_bytes
light_bytes-is = refl

pub row_bytes-is : row_bytes ≡ 128
unfolding row_bytes
row_bytes-is = refl

pub layer_count-is : layer_count ≡ 16
unfolding layer_count
layer_count-is = refl

-- a column is its sections
pub cells-sections : cells ≡ section_count * section_cells
unfolding cells section_count section_cells
cells-sections = refl

-- a section is its layers
pub section-layers : section_cells ≡ layer_count * squares
unfolding section_cells layer_count squares
section-layers = refl

pub light-layers : light_bytes ≡ layer_count * row_bytes
unfolding light_bytes layer_count row_bytes
light-layers = refl
