-- How a column keeps a section: not at all where its cells are all air.
use Rattle.std.specs.Prelude.{◌≡◌, ℕ, true, List, length, replicate, Option, Some, None}
use Rattle.mc_column.specs.Sizes.{section_cells}
use Rattle.mc_column.specs.Sent.{has_block}

-- the states of a section that is kept, or of air
abbrev pub states_in : Option (List ℕ) → List ℕ
states_in (Some states) = states
states_in None = replicate section_cells 0

-- what is kept has a block
pub record IsSparse (section : Option (List ℕ)) : Type 0 where
  pub sized : length (states_in section) ≡ section_cells
  pub filled : (states : List ℕ) → section ≡ Some states → has_block states ≡ true
