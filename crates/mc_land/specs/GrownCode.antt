-- How the code makes a column of the terrain: section upon section, each of 16 layers. No public
-- contract speaks of this.
use Rattle.std.specs.Prelude.{◌≡◌, ℕ, ◌+◌, ◌-◌, ◌*◌, ◌<◌, ◌≤◌, ◌&&◌, nat_lt, nat_le, List, map}
use Rattle.std.specs.Prelude.{length, slice_index, if◌then◌else◌}
use Rattle.std.specs.List.{range_with_len}
use Rattle.mc_column.specs.Sizes.{section_cells, squares}
use Rattle.mc_column.specs.Cells.{ColumnValue, HasSizes}
use Rattle.mc_column.specs.Kept.{block_of}
use Rattle.mc_land.specs.declared.terrain.Terrain.{Terrain}
use Rattle.mc_land.specs.declared.terrain.Terrain.TheVariants.{Flat, Hills, Isle}
use Rattle.mc_land.specs.Places.{Place}
use Rattle.mc_land.specs.Terrain.{height}
use Rattle.mc_land.specs.Land.{terrain_at, biomes_of}
use Rattle.mc_land.specs.Grown.{x_at, z_at}

-- a layer of these states comes after some
pub record AppendsLayer (old new : List ℕ) (state : ℕ → ℕ) : Type 0 where
  pub len : length new ≡ length old + squares
  pub kept : (i : ℕ) → i < length old → slice_index new i ≡ slice_index old i
  pub layer : (i : ℕ) → i < squares → slice_index new (length old + i) ≡ state i

-- the lowest block of a terrain
abbrev pub lowest : Terrain → ℕ
lowest Flat = 0
lowest (Hills seed) = 0
lowest Isle = 63

-- a block stands at each height from the lowest up to the top, and nowhere else
abbrev pub fills : Terrain → ℕ → ℕ → ℕ
fills terrain top y = if nat_le (lowest terrain) y && nat_le y top then 1 else 0

-- the tops of the terrain at the places of a column, which of the hills are their heights
pub record AreTops (terrain : Terrain) (place : Place) (tops : List ℕ) : Type 0 where
  pub sized : length tops ≡ squares
  pub at : (seed i : ℕ) → terrain ≡ Hills seed → i < squares → slice_index tops i ≡
      height seed (x_at place i) (z_at place i)
  pub reach : (y i : ℕ) → i < squares → block_of (terrain_at terrain (place, y * squares + i)) ≡
      fills terrain (slice_index tops i) y
  pub small : (i : ℕ) → i < squares → slice_index tops i < 256
  pub low : (seed i : ℕ) → terrain ≡ Hills seed → i < squares → 40 ≤ slice_index tops i
  pub high : (seed i : ℕ) → terrain ≡ Hills seed → i < squares → slice_index tops i ≤ 54

-- how many blocks stand from one height up to below another, where they reach from the first to the
-- top
abbrev pub reach_in : ℕ → ℕ → ℕ → ℕ
reach_in low high top = (if nat_lt top high then top + 1 else high) - low

-- where the blocks of section i begin
abbrev pub low_of : Terrain → ℕ → ℕ
low_of terrain i = if nat_lt (lowest terrain) (16 * i) then 16 * i else lowest terrain

-- the states of section i of the terrain's own column
abbrev pub own_section : Terrain → Place → ℕ → List ℕ
own_section terrain place i = map (λ k. terrain_at terrain (place, i * section_cells + k))
    (range_with_len 0 section_cells)

-- the sections below i are the terrain's own, and the others air
pub record IsGrown (terrain : Terrain) (place : Place) (column : ColumnValue) (i : ℕ) : Type 0 where
  pub sizes : HasSizes column
  pub biomes : column.biomes ≡ biomes_of terrain place
  pub own : (k : ℕ) → k < i * section_cells → slice_index column.states k ≡
      terrain_at terrain (place, k)
  pub air : (k : ℕ) → i * section_cells ≤ k → slice_index column.states k ≡ 0
