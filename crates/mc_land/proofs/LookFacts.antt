-- What looking at a kept land gives.
use Rattle.std.proofs.Common.{◌≡◌, ℕ, ◌<◌, true, false, List, [], length}
use Rattle.std.proofs.Common.{map, get_or, Some, None, refl, sym, ap, ◌∙◌, arith}
use Rattle.std.specs.Option.{option_map}
use Rattle.std.proofs.lemmas.List.FromFn.{get_or-map-range_with_len, length-map-range_with_len}
use Rattle.mc_land.specs.Places.{x_of, y_of, z_of}
use Rattle.std.specs.FinMap.{find}
use Rattle.std.proofs.lemmas.Bool.{lt-ltb}
use Rattle.mc_column.specs.Sizes.{cells}
use Rattle.mc_column.specs.Cells.{ColumnValue, cell_index}
use Rattle.mc_land.specs.declared.terrain.Terrain.{Terrain}
use Rattle.mc_land.specs.Places.{Key, Place, place_cmp, key_cmp, inside, place_of}
use Rattle.mc_land.specs.Terrain.{terrain_state}
use Rattle.mc_land.specs.Land.{terrain_at, state_at, states_of, block, column_of, dirty_in}
use Rattle.mc_land.specs.Kept.{kept_edits}
use Rattle.mc_land.specs.KeptLand.{IsIndexed, Columns, Chests, present_states, settled_states}
use Rattle.mc_land.specs.KeptLand.{kept_land, IsKeptLand}
use Rattle.mc_land.specs.Ready.{ReadyValue, touched_cells}
use Rattle.mc_land.proofs.LandFacts.{state_ready, state_else}
use Rattle.mc_land.proofs.KeptLandFacts.{apart, find_map}
use Rattle.mc_land.proofs.PlaceFacts.{terrain_at_key, key_within}
use Rattle.mc_land.proofs.GrownFacts.{listed_by}
use Rattle.mc_land.proofs.TouchedFacts.{touched_none}
use lib.IntN.{ℤ, pos}
use Rattle.std.specs.FinSet as set
use Rattle.std.specs.List.{list_any}
use Rattle.std.specs.Ordering.{eq_by_cmp}
use Rattle.std.specs.Option.{is_some}
use Rattle.std.proofs.Common.{◌↔◌, ◌∷◌}
use Rattle.std.proofs.lemmas.Bool.{true≢false}
use Rattle.mc_land.proofs.Orders.{places_total}
use Rattle.std.proofs.lemmas.Bool.Decides.{nat_tests}
use Rattle.std.specs.List.Sorted.{IsStrictlySortedBy}
use Rattle.mc_land.specs.Land.{is_chest}

abbrev pub present : ReadyValue → List ℕ
present ready = ready.present.states

abbrev pub settled : ReadyValue → List ℕ
settled ready = ready.settled.states

-- the state of a cell of a ready column, as it is or as it was settled
pub of_ready : (look : ReadyValue → List ℕ) (terrain : Terrain) (columns : Columns)
    (chests : Chests) (place : Place) (ready : ReadyValue) (i : ℕ) →
    IsKeptLand terrain columns chests → find place_cmp place columns ≡ Some ready → i < cells →
    state_at terrain (kept_edits terrain (map (λ e. (e.0, look e.1)) columns)) (place, i) ≡
    get_or (look ready) i 0
of_ready look terrain columns chests place ready i kept found lt =
    state_ready terrain (map (λ e. (e.0, look e.1)) columns) place i (look ready)
    (apart look columns kept.columns_apart) (find_map look place columns ∙
    ap (option_map look) found) lt

-- and of one that is not ready
pub of_none : (look : ReadyValue → List ℕ) (terrain : Terrain) (columns : Columns) (chests : Chests)
    (place : Place) (i : ℕ) → IsKeptLand terrain columns chests → find place_cmp place columns ≡
    None → state_at terrain (kept_edits terrain (map (λ e. (e.0, look e.1)) columns)) (place, i) ≡
    terrain_at terrain (place, i)
of_none look terrain columns chests place i kept none =
    state_else terrain (map (λ e. (e.0, look e.1)) columns) place i
    (apart look columns kept.columns_apart) (find_map look place columns ∙
    ap (option_map look) none)

pub block_ready : (terrain : Terrain) (columns : Columns) (chests : Chests) (x z : ℤ) (y : ℕ)
    (ready : ReadyValue) → IsKeptLand terrain columns chests →
    find place_cmp (place_of x z) columns ≡ Some ready → y < 256 →
    get_or ready.present.states (cell_index (inside x) y (inside z)) 0 ≡
    block (kept_land terrain columns chests) x (pos y) z
block_ready terrain columns chests x z y ready kept found lt =
    rw (lt-ltb y 256 lt) (sym (of_ready present terrain columns chests (place_of x z) ready
    (cell_index (inside x) y (inside z)) kept found (key_within x z y lt)))

pub block_else : (terrain : Terrain) (columns : Columns) (chests : Chests) (x z : ℤ) (y : ℕ) →
    IsKeptLand terrain columns chests → find place_cmp (place_of x z) columns ≡ None → y < 256 →
    terrain_state terrain x y z ≡ block (kept_land terrain columns chests) x (pos y) z
block_else terrain columns chests x z y kept none lt =
    rw (lt-ltb y 256 lt) (sym (of_none present terrain columns chests (place_of x z)
    (cell_index (inside x) y (inside z)) kept none ∙ terrain_at_key terrain x z y))

-- all states of a ready column
pub states_ready : (look : ReadyValue → List ℕ) (terrain : Terrain) (columns : Columns)
    (chests : Chests) (place : Place) (ready : ReadyValue) → IsKeptLand terrain columns chests →
    find place_cmp place columns ≡ Some ready → length (look ready) ≡ cells →
    look ready ≡ states_of terrain (kept_edits terrain (map (λ e. (e.0, look e.1)) columns)) place
states_ready look terrain columns chests place ready kept found len =
    listed_by (λ i. state_at terrain (kept_edits terrain (map (λ e. (e.0, look e.1)) columns))
    (place, i)) cells (look ready) len (λ i lt. sym (of_ready look terrain columns chests place
    ready i kept found lt))

-- a ready column is the one of its place
pub column_ready : (terrain : Terrain) (columns : Columns) (chests : Chests) (place : Place)
    (ready : ReadyValue) → IsKeptLand terrain columns chests → find place_cmp place columns ≡
    Some ready → ready.present ≡ column_of (kept_land terrain columns chests) place
column_ready terrain columns chests place ready kept found =
    let own = kept.own place ready found in
    same ready.present (column_of (kept_land terrain columns chests) place)
    (states_ready present terrain columns chests place ready kept found
    own.present_sizes.states_are) own.biomes
  where
    same : (a b : ColumnValue) → a.states ≡ b.states → a.biomes ≡ b.biomes → a ≡ b
    same a b e f i = record { states = e i; biomes = f i }

-- what is touched in it is what is dirty there
pub dirty_ready : (terrain : Terrain) (columns : Columns) (chests : Chests) (place : Place)
    (ready : ReadyValue) → IsKeptLand terrain columns chests → find place_cmp place columns ≡
    Some ready → touched_cells ready.settled.states ready.present.states ≡
    dirty_in (kept_land terrain columns chests) place
dirty_ready terrain columns chests place ready kept found =
    let own = kept.own place ready found in
    rw (
      ← states_ready present terrain columns chests place ready kept found
          own.present_sizes.states_are,
      ← states_ready settled terrain columns chests place ready kept
          found own.settled_sizes.states_are,
    ) refl

-- and nothing is where it is not ready
pub dirty_none : (terrain : Terrain) (columns : Columns) (chests : Chests) (place : Place) →
    IsKeptLand terrain columns chests → find place_cmp place columns ≡ None →
    [] ≡ dirty_in (kept_land terrain columns chests) place
dirty_none terrain columns chests place kept none =
    let same : states_of terrain (kept_edits terrain (settled_states columns)) place ≡
    states_of terrain (kept_edits terrain (present_states columns)) place =
    listed_by (λ i. state_at terrain (kept_edits terrain (present_states columns)) (place, i))
    cells (states_of terrain (kept_edits terrain (settled_states columns)) place)
    (length-map-range_with_len
    (λ i. state_at terrain (kept_edits terrain (settled_states columns)) (place, i)) 0 cells)
    (λ i lt. get_or-map-range_with_len
    (λ j. state_at terrain (kept_edits terrain (settled_states columns)) (place, j)) 0 cells i i
    0 lt (omega arith) ∙ of_none settled terrain columns chests place i kept none ∙
    sym (of_none present terrain columns chests place i kept none)) in
    sym (ap (λ (was : List ℕ). touched_cells was
    (states_of terrain (kept_edits terrain (present_states columns)) place)) same ∙
    touched_none (states_of terrain (kept_edits terrain (present_states columns)) place))

-- ---- which columns are ready

among : (q : Place) (columns : Columns) → list_any (eq_by_cmp place_cmp q) (map (λ e. e.0) columns)
    ≡ is_some (find place_cmp q columns)
among q [] = refl
among q (e ∷ es) = grind (arith, nat_tests, among q es)

pub is_ready : (terrain : Terrain) (columns : Columns) (chests : Chests) (place : Place) →
    set.contains (kept_land terrain columns chests).ready place ≡
    is_some (find place_cmp place columns)
is_ready terrain columns chests place = set.contains-from_list places_total (map (λ e. e.0) columns)
    place ∙ among place columns

pub ready_some : (terrain : Terrain) (columns : Columns) (chests : Chests) (place : Place)
    (ready : ReadyValue) → find place_cmp place columns ≡ Some ready → (true ≡ false) ↔
    (set.contains (kept_land terrain columns chests).ready place ≡ false)
ready_some terrain columns chests place ready found =
    grind (arith, nat_tests, is_ready terrain columns chests place, true≢false)

pub ready_none : (terrain : Terrain) (columns : Columns) (chests : Chests) (place : Place) →
    find place_cmp place columns ≡ None → (false ≡ false) ↔
    (set.contains (kept_land terrain columns chests).ready place ≡ false)
ready_none terrain columns chests place none =
    grind (arith, nat_tests, is_ready terrain columns chests place)

-- ---- a land of the terrain alone

-- no block of the terrain is a chest
pub own_no_chest : (terrain : Terrain) (x z : ℤ) (y : ℕ) → is_chest (terrain_state terrain x y z) ≡
    false
own_no_chest terrain x z y = grind (arith, nat_tests)

none_in : (key : Key) (chests : Chests) → chests ≡ [] → is_some (find key_cmp key chests) ≡ true → ⊥
none_in key [] e some = absurd cc
none_in key (x ∷ xs) e some = absurd cc

pub kept_new : (terrain : Terrain) (columns : Columns) (chests : Chests) → columns ≡ [] →
    chests ≡ [] → IsStrictlySortedBy key_cmp (map (λ e. e.0) chests) →
    IsKeptLand terrain columns chests
kept_new terrain columns chests none empty ordered' =
    record {
      columns_apart = rw none tt;
      chests_ordered = ordered';
      chests_inside = λ place i some. absurd (none_in (place, i) chests empty some);
      own = λ place ready found. let h : find place_cmp place [] ≡ Some ready = rw none at found in
          absurd cc;
      chests_are =
          λ place i lt. rw (empty, none)
          (sym (ap is_chest (state_else terrain [] place i tt refl) ∙
          own_no_chest terrain (x_of (place, i)) (z_of (place, i)) (y_of (place, i))));
    }

pub indexed_new : (columns : List ReadyValue) (index : List (Place × ℕ)) → columns ≡ [] →
    index ≡ [] → IsIndexed columns index
indexed_new columns index none empty = record {
  listed = λ place i found. let h : find place_cmp place [] ≡ Some i = rw empty at found in
      absurd cc;
  placed_at = λ place i d found. let h : find place_cmp place [] ≡ Some i = rw empty at found in
      absurd cc;
  indexed = λ i d lt. absurd (omega (arith, ap length none));
}
