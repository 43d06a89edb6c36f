-- Which columns have a dirty cell. Rules of this project.
use Rattle.std.specs.Prelude.{◌≡◌, ◌==◌, not, List, length}
use Rattle.std.specs.Ordering.{eq_by_cmp}
use Rattle.std.specs.List.{AllByRecursion, list_any}
use Rattle.std.specs.List.Sorted.{IsStrictlySortedBy}
use Rattle.mc_land.specs.Places.{IsPlace, Place, place_cmp}
use Rattle.mc_land.specs.Land.{LandValue, dirty_in}

-- the columns in which a cell is dirty, by rising place
pub record AreTouched (land : LandValue) (places : List Place) : Type 0 where
  pub rising : IsStrictlySortedBy place_cmp places
  pub inside : AllByRecursion IsPlace places
  pub all : (place : Place) → list_any (eq_by_cmp place_cmp place) places ≡
      not (length (dirty_in land place) == 0)
