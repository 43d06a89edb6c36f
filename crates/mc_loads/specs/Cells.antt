-- What the cells of a column are told by.
use Rattle.std.specs.Prelude.{ℕ, ◌<◌, List, map, slice_index}
use Rattle.std.specs.List.{AllByRecursion}
use Rattle.mc_land.specs.declared.ready.Touched.{Touched}
use Rattle.mc_land.specs.Places.{Place}
use Rattle.mc_land.specs.Land.{LandValue, states_of}

-- the states of a column, as they are
abbrev pub states_at : LandValue → Place → List ℕ
states_at land place = states_of land.terrain land.edits place

abbrev pub indices : List Touched → List ℕ
indices touched = map (λ (t : Touched). t.index) touched

-- a packet can carry a cell and its state
pub record IsCell (states : List ℕ) (i : ℕ) : Type 0 where
  pub index : i < 65536
  pub state : slice_index states i < 65536

abbrev pub AreCells : List ℕ → List ℕ → Type 0
AreCells states is = AllByRecursion (IsCell states) is
