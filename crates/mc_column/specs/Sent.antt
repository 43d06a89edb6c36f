-- What is sent of a column: the mask of its sections, and the bytes of its body. Which sections are
-- sent, the mask of a column with no block, and the light are rules of this project; the layout is
-- that of specs/Body.antt.
use Rattle.std.specs.Prelude.{◌≡◌, ◌≢◌, ℕ, zero, suc, ◌+◌, ◌*◌, ◌/◌, ◌<◌, ◌^◌, Bool, true, false}
use Rattle.std.specs.Prelude.{List, ◌++◌, replicate, slice_index, ◌==◌, not, if◌then◌else◌}
use Rattle.std.specs.List.{list_any}
use Rattle.mc_column.specs.Sizes.{section_count, section_cells, light_bytes}
use Rattle.mc_column.specs.Cells.{ColumnValue, IsAir, section_of, joined, picked, rank, wire}
use Rattle.mc_column.specs.Light.{IsOpen, section_sky, half_of}
use Rattle.mc_column.specs.Body.{SpellsBody, is_named, named_count, block_light_at, sky_light_at}
use Rattle.mc_column.specs.Body.{column_body}

-- some state is not air
abbrev pub has_block : List ℕ → Bool
has_block states = list_any (λ state. not (state == 0)) states

-- the number whose lowest n bits are a test of i, i + 1 and so on
abbrev pub bits : (ℕ → Bool) → ℕ → ℕ → ℕ
bits test i zero = 0
bits test i (suc n) = (if test i then 1 else 0) + 2 * bits test (suc i) n

-- a ground-up body for mask 0 would be an unload: a column with no block names its lowest section
abbrev pub with_one : ℕ → ℕ
with_one mask = if mask == 0 then 1 else mask

-- the mask that a column is sent with
unfoldable pub column_mask : ColumnValue → ℕ
column_mask column = with_one (bits (λ i. has_block (section_of column.states i)) 0 section_count)

-- The mask names the sections that are not all air, and section 0 alone for a column with no block.
pub record IsColumnMask (column : ColumnValue) (mask : ℕ) : Type 0 where
  pub below : mask < 2 ^ section_count
  pub some : mask ≢ 0
  -- a section that it does not name is air
  pub left_out : (i : ℕ) → i < section_count → is_named mask i ≡ false →
      IsAir (section_of column.states i)
  -- one that it names has a block, unless all are air, and then it is the lowest
  pub named : (i : ℕ) → i < section_count → is_named mask i ≡ true →
      IsAir (section_of column.states i) → (i ≡ 0) × IsAir column.states

-- the byte of the sky light that has the cell of index k in section i
abbrev pub sky_place : ℕ → ℕ → ℕ → ℕ
sky_place mask i k = sky_light_at mask + (rank (is_named mask) i * light_bytes + k / 2)

-- The bytes spell the body of a column for a mask, with sky light and biomes, and light is as it
-- must be.
pub record SpellsColumn (column : ColumnValue) (mask : ℕ) (bytes : List ℕ) : Type 0 where
  pub body : SpellsBody (column_body column mask) mask true true bytes
  -- there is no block light
  pub block_light : (k : ℕ) → k < named_count mask * light_bytes →
      slice_index bytes (block_light_at mask + k) ≡ 0
  -- the cell of index k in section i is lit with 15 where it and all cells above it are air
  pub lit : (i k : ℕ) → i < section_count → is_named mask i ≡ true → k < section_cells →
      IsOpen column.states (i * section_cells + k) →
      half_of k (slice_index bytes (sky_place mask i k)) ≡ 15
  -- and with 0 where it or a cell above it is not
  pub dark : (i k : ℕ) → i < section_count → is_named mask i ≡ true → k < section_cells →
      ¬ (IsOpen column.states (i * section_cells + k)) →
      half_of k (slice_index bytes (sky_place mask i k)) ≡ 0

-- the bytes of a column's body for a mask
unfoldable pub body_bytes : ColumnValue → ℕ → List ℕ
body_bytes column mask =
    wire (column_body column mask).states ++ (replicate (named_count mask * light_bytes) 0 ++
    (joined (picked (is_named mask) (section_sky column.states)) section_count ++
    column.biomes))

-- the bytes that a column is sent as
abbrev pub column_bytes : ColumnValue → List ℕ
column_bytes column = body_bytes column (column_mask column)
