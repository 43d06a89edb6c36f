-- How a land is kept: the states of each ready column, from which the edits follow.
use Rattle.std.specs.Prelude.{◌≡◌, ℕ, ◌==◌, Bool, not, List, [], ◌∷◌, None, map, slice_index}
use Rattle.std.specs.List.{filter, flat_map, range_with_len}
use Rattle.std.specs.FinMap.{FinMap, find, from_entries}
use Rattle.mc_column.specs.Sizes.{cells}
use Rattle.mc_land.specs.declared.terrain.Terrain.{Terrain}
use Rattle.mc_land.specs.Places.{Place, Key, place_cmp, key_cmp}
use Rattle.mc_land.specs.Land.{terrain_at}

-- a state of a column is not the terrain's
abbrev pub is_changed : Terrain → Place → List ℕ → ℕ → Bool
is_changed terrain place states i = not (slice_index states i == terrain_at terrain (place, i))

-- the cells of a column whose state is not the terrain's
abbrev pub changes : Terrain → Place → List ℕ → List (Key × ℕ)
changes terrain place states = map (λ i. ((place, i), slice_index states i))
    (filter (is_changed terrain place states) (range_with_len 0 cells))

-- those of all columns
abbrev pub kept_edits : Terrain → List (Place × List ℕ) → FinMap key_cmp ℕ
kept_edits terrain columns = from_entries (flat_map (λ e. changes terrain e.0 e.1) columns)

-- no column stands twice
abbrev pub IsApart : {X : Type 0} → List (Place × X) → Type 0
IsApart [] = Unit {0}
IsApart (e ∷ es) = (find place_cmp e.0 es ≡ None) × IsApart es
