-- A column of cells, its sections, and the two bytes in which a state is sent.
use Rattle.std.specs.Prelude.{◌≡◌, ℕ, zero, suc, ◌+◌, ◌*◌, ◌/◌, ◌%◌, Bool, List, [], ◌∷◌, ◌++◌}
use Rattle.std.specs.Prelude.{length, take, drop, slice_set, replicate, if◌then◌else◌}
use Rattle.std.specs.List.{All}
use Rattle.mc_column.specs.Sizes.{section_cells, cells, squares}

-- a column as contracts see it
pub record ColumnValue : Type 0 where
  -- 65,536 states, that of (x, y, z) at y * 256 + z * 16 + x: a layer after another, from the
  -- bottom
  pub states : List ℕ
  -- 256 biomes, that of (x, z) at z * 16 + x
  pub biomes : List ℕ

abbrev pub cell_index : ℕ → ℕ → ℕ → ℕ
cell_index x y z = y * 256 + z * 16 + x

abbrev pub square_index : ℕ → ℕ → ℕ
square_index x z = z * 16 + x

-- as many states and biomes as a column has
pub record HasSizes (column : ColumnValue) : Type 0 where
  pub states_are : length column.states ≡ cells
  pub biomes_are : length column.biomes ≡ squares

-- all air, with one biome
abbrev pub empty_column : ℕ → ColumnValue
empty_column biome = record { states = replicate cells 0; biomes = replicate squares biome }

-- the column with another state at an index
abbrev pub with_state : ColumnValue → ℕ → ℕ → ColumnValue
with_state column i state = record {
  states = slice_set column.states i state;
  biomes = column.biomes;
}

-- the column with other states in section i
abbrev pub with_section : ColumnValue → ℕ → List ℕ → ColumnValue
with_section column i states = record {
  states = take (i * section_cells) column.states ++
      (states ++ drop (i * section_cells + section_cells) column.states);
  biomes = column.biomes;
}

-- the states of section i, of all states from the bottom: 4,096 after those of the sections below
abbrev pub section_of : List ℕ → ℕ → List ℕ
section_of states i = take section_cells (drop (i * section_cells) states)

-- each state is air
abbrev pub IsAir : List ℕ → Type 0
IsAir states = All (λ state. state ≡ 0) states

-- the lists that f gives at 0, 1 and so on below n, one after another
abbrev pub joined : (ℕ → List ℕ) → ℕ → List ℕ
joined f zero = []
joined f (suc n) = joined f n ++ f n

-- what f gives, where the test passes, else nothing
abbrev pub picked : (ℕ → Bool) → (ℕ → List ℕ) → ℕ → List ℕ
picked test f i = if test i then f i else []

-- how many numbers below n pass a test
abbrev pub rank : (ℕ → Bool) → ℕ → ℕ
rank test zero = 0
rank test (suc n) = rank test n + (if test n then 1 else 0)

-- the states as they are sent: two bytes each, the least significant first
abbrev pub wire : List ℕ → List ℕ
wire [] = []
wire (state ∷ states) = state % 256 ∷ (state / 256 ∷ wire states)

-- the states that so many bytes are
abbrev pub paired : List ℕ → List ℕ
paired [] = []
paired (low ∷ []) = []
paired (low ∷ high ∷ bytes) = (low + 256 * high) ∷ paired bytes
