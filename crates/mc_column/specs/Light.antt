-- Sky light: a cell is lit where it and all cells above it are air. That is a rule of this
-- project; half a byte a cell, the low half for the even index, is wiki.vg's layout for protocol
-- 47.
use Rattle.std.specs.Prelude.{◌≡◌, ℕ, zero, suc, ◌+◌, ◌*◌, ◌/◌, ◌%◌, Bool, true}
use Rattle.std.specs.Prelude.{List, length, map, slice_index, ◌==◌, ◌&&◌, if◌then◌else◌}
use Rattle.std.specs.List.{range_with_len}
use Rattle.mc_column.specs.Sizes.{section_cells, squares, light_bytes}

-- the cell at an index and all cells above it are air: the cell above is 256 further on, and past
-- the end all is air
abbrev pub IsOpen : List ℕ → ℕ → Type 0
IsOpen states i = (k : ℕ) → slice_index states (i + k * squares) ≡ 0

-- whether the cell at an index and those above it in n layers are air
abbrev pub is_open : ℕ → List ℕ → ℕ → Bool
is_open zero states i = true
is_open (suc n) states i = (slice_index states i == 0) && is_open n states (i + squares)

-- the sky light of the cell at an index: there are no more layers than cells
abbrev pub sky_light : List ℕ → ℕ → ℕ
sky_light states i = if is_open (length states) states i then 15 else 0

-- half a byte a cell, the low half for the even index
abbrev pub sky_byte : List ℕ → ℕ → ℕ
sky_byte states i = sky_light states i + 16 * sky_light states (i + 1)

-- n bytes, from the cell at an index on
abbrev pub sky_bytes : List ℕ → ℕ → ℕ → List ℕ
sky_bytes states i n = map (λ j. sky_byte states (i + 2 * j)) (range_with_len 0 n)

-- the sky light of section i
abbrev pub section_sky : List ℕ → ℕ → List ℕ
section_sky states i = sky_bytes states (i * section_cells) light_bytes

-- the light of the cell at an index, in a byte that holds its light and that of the cell beside it
abbrev pub half_of : ℕ → ℕ → ℕ
half_of i byte = if i % 2 == 0 then byte % 16 else byte / 16
