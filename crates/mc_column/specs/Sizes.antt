-- The sizes of a column, as names that no proof looks into: a list of so many elements is never
-- written out.
use Rattle.std.specs.Prelude.{ℕ}

-- sections in a column
unfoldable pub section_count : ℕ
section_count = 16

-- cells in a section, 16 by 16 by 16
unfoldable pub section_cells : ℕ
section_cells = 4096

-- cells in a column
unfoldable pub cells : ℕ
cells = 65536

-- cells in a layer, 16 by 16, and biomes in a column
unfoldable pub squares : ℕ
squares = 256

-- bytes of light in a section, half a byte a cell
unfoldable pub light_bytes : ℕ
light_bytes = 2048

-- bytes of light in a layer
unfoldable pub row_bytes : ℕ
row_bytes = 128

-- layers in a section
unfoldable pub layer_count : ℕ
layer_count = 16
