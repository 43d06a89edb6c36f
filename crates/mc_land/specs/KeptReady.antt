-- How a ready column is kept: as it is, with the cells that changed and what they were, and the
-- number of its edits.
use Rattle.std.specs.Prelude.{◌≡◌, ℕ, Bool, List, [], ◌∷◌, length, slice_set, if◌then◌else◌}
use Rattle.mc_column.specs.Cells.{ColumnValue, HasSizes}
use Rattle.mc_land.specs.declared.ready.Touched.{Touched}
use Rattle.mc_land.specs.declared.terrain.Terrain.{Terrain}
use Rattle.mc_land.specs.Places.{Place, IsPlace}
use Rattle.mc_land.specs.Kept.{changes}
use Rattle.mc_land.specs.Ready.{ReadyValue, touched_cells}

-- one for true
abbrev pub bit_of : Bool → ℕ
bit_of b = if b then 1 else 0

-- the states where touched cells have again what they had
abbrev pub put_back : List Touched → List ℕ → List ℕ
put_back [] states = states
put_back (cell ∷ cells) states = slice_set (put_back cells states) cell.index cell.was

abbrev pub kept_ready : Place → Terrain → ColumnValue → List Touched → ReadyValue
kept_ready place terrain column touched = record {
  place = place;
  terrain = terrain;
  present = column;
  settled = record { states = put_back touched column.states; biomes = column.biomes };
}

pub record IsKeptReady (place : Place) (terrain : Terrain) (column : ColumnValue)
    (touched : List Touched) (edits : ℕ) : Type 0 where
  pub inside : IsPlace place
  pub sizes : HasSizes column
  pub touched_are : touched ≡ touched_cells (put_back touched column.states) column.states
  -- the cells that are not the terrain's are counted
  pub counted : edits ≡ length (changes terrain place column.states)
