-- How a column is kept: its sections from the bottom up, and its biomes.
use Rattle.std.specs.Prelude.{◌≡◌, ℕ, ◌<◌, List, [], length, slice_index_or}
use Rattle.mc_column.specs.Sizes.{section_count, section_cells, squares}
use Rattle.mc_column.specs.Cells.{ColumnValue, joined}

-- the states of section i
abbrev pub nth_section : List (List ℕ) → ℕ → List ℕ
nth_section sections i = slice_index_or sections i []

abbrev pub kept_column : List (List ℕ) → List ℕ → ColumnValue
kept_column sections biomes = record {
  states = joined (nth_section sections) section_count;
  biomes = biomes;
}

pub record IsKeptColumn (sections : List (List ℕ)) (biomes : List ℕ) : Type 0 where
  pub all_there : length sections ≡ section_count
  pub sized : (i : ℕ) → i < section_count → length (nth_section sections i) ≡ section_cells
  pub biomes_are : length biomes ≡ squares
