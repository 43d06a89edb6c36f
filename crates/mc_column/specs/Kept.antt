-- How a section is kept: the bytes of its states and a count.
use Rattle.std.specs.Prelude.{◌≡◌, ℕ, ◌*◌, ◌<◌, List, length, slice_index, ◌==◌, if◌then◌else◌}
use Rattle.std.specs.List.{sum_by}
use Rattle.mc_column.specs.Sizes.{section_cells}
use Rattle.mc_column.specs.Cells.{paired}

-- one for a state that is not air
abbrev pub block_of : ℕ → ℕ
block_of state = if state == 0 then 0 else 1

-- how many states are not air
abbrev pub blocks_in : List ℕ → ℕ
blocks_in states = sum_by block_of states

-- the bytes of a section's states, and how many of these are not air
pub record IsKept (bytes : List ℕ) (filled : ℕ) : Type 0 where
  pub sized : length bytes ≡ 2 * section_cells
  pub are_bytes : (i : ℕ) → slice_index bytes i < 256
  pub counted : filled ≡ blocks_in (paired bytes)
