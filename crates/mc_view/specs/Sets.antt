-- Sets of columns around a place: which columns such a set has, and which of one set another lacks.
-- Rules of this project.
use Rattle.std.specs.Prelude.{not, Bool, false, List, Option, Some, None}
use Rattle.std.specs.List.{filter}
use Rattle.mc_column.specs.Places.{Place}
use Rattle.mc_view.specs.Views.{is_in_view, view_of}
use Rattle.mc_view.specs.declared.view_set.ViewSet.{ViewSet}

abbrev pub has : ViewSet → Place → Bool
has view place = is_in_view (view.cx, view.cz) view.d place

-- there is a set, and it has a column
abbrev pub is_within : Option ViewSet → Place → Bool
is_within None place = false
is_within (Some view) place = has view place

-- all of them, in the order of their places
abbrev pub all_of : ViewSet → List Place
all_of view = view_of (view.cx, view.cz) view.d

-- those of one set that another lacks, in the same order
abbrev pub lacking : ViewSet → ViewSet → List Place
lacking view other = filter (λ (place : Place). not (has other place)) (all_of view)
