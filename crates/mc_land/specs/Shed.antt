-- Which columns stay ready when the rest is given up: those with an edit, and those that a view
-- reaches. Rules of this project.
use Rattle.std.specs.Prelude.{◌≡◌, ℕ, Bool, ◌||◌, List}
use Rattle.std.specs.Ordering.{eq_by_cmp}
use Rattle.std.specs.List.{list_any}
use Rattle.std.specs.FinMap.{FinMap, entries}
use Rattle.std.specs.FinSet as set
pub use Rattle.mc_column.specs.Places.{is_in_view}
use Rattle.mc_land.specs.Places.{Place, place_cmp, key_cmp}
use Rattle.mc_land.specs.Land.{LandValue}
use lib.IntN.{ℤ}

-- a view is the numbers of its middle column, and how many columns it reaches on each axis
abbrev pub View : Type 0
View = ℤ × ℤ × ℕ

-- no cell is dirty
pub record IsSettled (land : LandValue) : Type 0 where
  pub all : land.settled ≡ land.edits

-- one of the views has the column
abbrev pub is_seen : List View → Place → Bool
is_seen views place = list_any (λ view. is_in_view (view.0, view.1) view.2 place) views

-- a cell of the column is not the terrain's
abbrev pub is_edited : FinMap key_cmp ℕ → Place → Bool
is_edited edits place = list_any (λ edit. eq_by_cmp place_cmp place edit.0.0) (entries edits)

abbrev pub stays : LandValue → List View → Place → Bool
stays land views place = is_edited land.edits place || is_seen views place

-- no cell changes; a ready column that does not stay is ready no more
abbrev pub shed_land : LandValue → List View → LandValue
shed_land land views = record land { ready = set.retain land.ready (stays land views) }
