-- A column that is ready to be looked at, and what changed in it since the last settling. Rules of
-- this project.
use Rattle.std.specs.Prelude.{ℕ, ◌==◌, Bool, not, List, map, slice_index}
use Rattle.std.specs.List.{filter, range_with_len}
use Rattle.mc_column.specs.Sizes.{cells}
use Rattle.mc_column.specs.Cells.{ColumnValue, with_state}
use Rattle.mc_land.specs.declared.ready.Touched.{Touched}
use Rattle.mc_land.specs.declared.terrain.Terrain.{Terrain}
use Rattle.mc_land.specs.Places.{Place}

-- a ready column as contracts see it
pub record ReadyValue : Type 0 where
  pub place : Place
  pub terrain : Terrain
  pub present : ColumnValue
  -- as it was at the last settling
  pub settled : ColumnValue

-- the cells whose states differ, in rising index, with the states that they had
abbrev pub has_changed : List ℕ → List ℕ → ℕ → Bool
has_changed was now i = not (slice_index was i == slice_index now i)

abbrev pub touched_cell : List ℕ → ℕ → Touched
touched_cell was i = record { index = i; was = slice_index was i }

abbrev pub touched_cells : List ℕ → List ℕ → List Touched
touched_cells was now =
    map (touched_cell was) (filter (has_changed was now) (range_with_len 0 cells))

-- the column with another state in a cell
abbrev pub set_cell : ReadyValue → ℕ → ℕ → ReadyValue
set_cell ready i state = record ready { present = with_state ready.present i state }

abbrev pub settled_ready : ReadyValue → ReadyValue
settled_ready ready = record ready { settled = ready.present }
