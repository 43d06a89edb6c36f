-- How a land is kept: its ready columns in the order in which they were made, where each stands,
-- and its chests.
use Rattle.std.specs.Prelude.{◌≡◌, ℕ, ◌<◌, true, List, map, length, slice_index_or, Some, None, []}
use Rattle.std.specs.Prelude.{◌∷◌, ◌++◌}
use Rattle.std.specs.Option.{is_some}
use Rattle.std.specs.List.Sorted.{IsStrictlySortedBy}
use Rattle.std.specs.FinMap.{find, from_entries}
use Rattle.std.specs.FinSet as set
use Rattle.mc_slots.specs.declared.pile.Pile.{Pile}
use Rattle.mc_column.specs.Sizes.{cells}
use Rattle.mc_column.specs.Cells.{HasSizes}
use Rattle.mc_land.specs.declared.terrain.Terrain.{Terrain}
use Rattle.mc_land.specs.Places.{Place, Key, IsPlace, place_cmp, key_cmp}
use Rattle.mc_land.specs.Land.{LandValue, biomes_of, state_at, is_chest}
use Rattle.mc_land.specs.Kept.{kept_edits, IsApart}
use Rattle.mc_land.specs.Ready.{ReadyValue}
use Rattle.mc_land.specs.ReadyCode.{set_at}
use Rattle.mc_land.specs.Grown.{own_column}

abbrev pub Columns : Type 0
Columns = List (Place × ReadyValue)

abbrev pub Chests : Type 0
Chests = List (Key × List Pile)

-- a ready column under its place
abbrev pub placed : List ReadyValue → Columns
placed columns = map (λ ready. (ready.place, ready)) columns

-- where each column stands
pub record IsIndexed (columns : List ReadyValue) (index : List (Place × ℕ)) : Type 0 where
  pub listed : (place : Place) (i : ℕ) → find place_cmp place index ≡ Some i → i < length columns
  pub placed_at : (place : Place) (i : ℕ) (d : ReadyValue) → find place_cmp place index ≡ Some i →
      (slice_index_or columns i d).place ≡ place
  pub indexed : (i : ℕ) (d : ReadyValue) → i < length columns →
      find place_cmp (slice_index_or columns i d).place index ≡ Some i

-- the states of the columns as they are, and as they were settled
abbrev pub present_states : Columns → List (Place × List ℕ)
present_states columns = map (λ e. (e.0, e.1.present.states)) columns

abbrev pub settled_states : Columns → List (Place × List ℕ)
settled_states columns = map (λ e. (e.0, e.1.settled.states)) columns

abbrev pub kept_land : Terrain → Columns → Chests → LandValue
kept_land terrain columns chests = record {
  terrain = terrain;
  edits = kept_edits terrain (present_states columns);
  settled = kept_edits terrain (settled_states columns);
  chests = from_entries chests;
  ready = set.from_list (map (λ e. e.0) columns);
}

-- a ready column of its place
pub record IsOwn (terrain : Terrain) (place : Place) (ready : ReadyValue) : Type 0 where
  pub inside : IsPlace place
  pub terrain_is : ready.terrain ≡ terrain
  pub present_sizes : HasSizes ready.present
  pub settled_sizes : HasSizes ready.settled
  pub biomes : ready.present.biomes ≡ biomes_of terrain place

pub record IsKeptLand (terrain : Terrain) (columns : Columns) (chests : Chests) : Type 0 where
  pub columns_apart : IsApart columns
  pub chests_ordered : IsStrictlySortedBy key_cmp (map (λ e. e.0) chests)
  pub own : (place : Place) (ready : ReadyValue) → find place_cmp place columns ≡ Some ready →
      IsOwn terrain place ready
  -- a chest's cell is one of its column
  pub chests_inside : (place : Place) (i : ℕ) → is_some (find key_cmp (place, i) chests) ≡ true →
      i < cells
  -- a chest stands exactly where the state is one's
  pub chests_are : (place : Place) (i : ℕ) → i < cells → is_some (find key_cmp (place, i) chests) ≡
      is_chest (state_at terrain (kept_edits terrain (present_states columns)) (place, i))

-- a ready column of the terrain's own cells
pub record IsFresh (terrain : Terrain) (place : Place) (ready : ReadyValue) : Type 0 where
  pub inside : IsPlace place
  pub at : ready.place ≡ place
  pub terrain_is : ready.terrain ≡ terrain
  pub present_own : ready.present ≡ own_column terrain place
  pub settled_own : ready.settled ≡ own_column terrain place

-- a cell of a place is set, in the column that is ready or in one that is made
pub record IsPut (terrain : Terrain) (place : Place) (i state : ℕ) (old new : List ReadyValue) :
    Type 0 where
  pub there : (ready : ReadyValue) → find place_cmp place (placed old) ≡ Some ready →
      new ≡ map (set_at place i state) old
  pub made : find place_cmp place (placed old) ≡ None → (fresh : ReadyValue) ×
      IsFresh terrain place fresh × (new ≡ map (set_at place i state) (old ++ fresh ∷ []))
