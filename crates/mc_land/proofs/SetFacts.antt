-- A kept land where a cell is set.
use Rattle.std.proofs.Common.{◌≡◌, ℕ, ◌<◌, true, false, cond, eqb, List, [], ◌∷◌, ◌++◌, length, map}
use Rattle.std.proofs.Common.{get_or, set, Option, Some, None, refl, sym, ap, ◌∙◌, arith}
use Rattle.std.proofs.Common.{inl, inr}
use Rattle.std.proofs.lemmas.Bool.Decides.{nat_tests}
use Rattle.std.specs.declared.cmp.Ordering.{Ordering}
use Rattle.std.specs.declared.cmp.Ordering.TheVariants.{Less, Equal, Greater}
use Rattle.std.specs.Ordering.{is_eq, eq_by_cmp}
use Rattle.std.specs.Cmp.{tied_itself, eq_by_cmp_equiv}
use Rattle.std.specs.Option.{option_map, unwrap_or}
use Rattle.std.specs.FinMap.{FinMap, find, get, insert, remove, get-insert, get-remove}
use Rattle.std.proofs.lemmas.Bool.{cases_eq, true≢false, eqb-true}
use Rattle.std.proofs.lemmas.List.{get_or-map, length-map, length-set, get_or-set_same}
use Rattle.std.proofs.lemmas.List.{get_or-set_other, ext_get_or, map-append}
use Rattle.mc_column.specs.Sizes.{cells}
use Rattle.mc_column.specs.Cells.{ColumnValue, HasSizes}
use Rattle.mc_slots.specs.declared.pile.Pile.{Pile}
use Rattle.mc_land.specs.declared.terrain.Terrain.{Terrain}
use Rattle.mc_land.specs.Places.{Place, Key, place_cmp, key_cmp}
use Rattle.mc_land.specs.Land.{LandValue, terrain_at, state_at, edited, chests_after}
use Rattle.mc_land.specs.Kept.{kept_edits, IsApart}
use Rattle.mc_land.specs.KeptLand.{Columns, placed, present_states, settled_states, IsFresh}
use Rattle.mc_land.specs.KeptLand.{IsIndexed, IsOwn, IsPut}
use Rattle.mc_land.specs.Ready.{ReadyValue, set_cell}
use Rattle.mc_land.specs.ReadyCode.{changed_at, set_at}
use Rattle.mc_land.proofs.Orders.{places_total, exact_places, keys_total, exact_keys}
use Rattle.mc_land.proofs.LandFacts.{Puts, set_edits}
use Rattle.mc_land.proofs.KeptLandFacts.{apart, find_map}
use Rattle.mc_land.proofs.LookFacts.{present, settled}

is_equal : (o : Ordering) → is_eq o ≡ true → o ≡ Equal
is_equal o e = grind (arith, nat_tests)

turned : (a b : Place) → eq_by_cmp place_cmp a b ≡ eq_by_cmp place_cmp b a
turned a b = (eq_by_cmp_equiv places_total).symm a b

-- ---- one column of all

at_place : (place : Place) (i state : ℕ) (ready : ReadyValue) → ready.place ≡ place →
    set_at place i state ready ≡ set_cell ready i state
at_place place i state ready e = grind (arith, nat_tests)

pub elsewhere : (place : Place) (i state : ℕ) (ready : ReadyValue) → (ready.place ≡ place → ⊥) →
    set_at place i state ready ≡ ready
elsewhere place i state ready ne = grind (arith, nat_tests)

pub set_place : (place : Place) (i state : ℕ) (ready : ReadyValue) →
    (set_at place i state ready).place ≡ ready.place
set_place place i state ready = grind (arith, nat_tests)

set_settled : (place : Place) (i state : ℕ) (ready : ReadyValue) →
    (set_at place i state ready).settled ≡ ready.settled
set_settled place i state ready = grind (arith, nat_tests)

changed_here : (place : Place) (f : ReadyValue → ReadyValue) (ready : ReadyValue) →
    ready.place ≡ place → changed_at place f ready ≡ f ready
changed_here place f ready e = grind (arith, nat_tests)

changed_elsewhere : (place : Place) (f : ReadyValue → ReadyValue) (ready : ReadyValue) →
    (ready.place ≡ place → ⊥) → changed_at place f ready ≡ ready
changed_elsewhere place f ready ne = grind (arith, nat_tests)

-- changing the column that the index names is changing the column of the place
pub changed_is_map : (f : ReadyValue → ReadyValue) (columns new : List ReadyValue)
    (index : List (Place × ℕ)) (place : Place) (n : ℕ) → IsIndexed columns index →
    find place_cmp place index ≡ Some n →
    ((d : ReadyValue) → new ≡ set columns n (f (get_or columns n d))) →
    new ≡ map (changed_at place f) columns
changed_is_map f [] new index place n is e each = absurd (omega (arith, is.listed place n e))
changed_is_map f (d ∷ ds) new index place n is e each =
    each d ∙ ext_get_or d (set (d ∷ ds) n (f (get_or (d ∷ ds) n d)))
    (map (changed_at place f) (d ∷ ds)) (length-set (d ∷ ds) n (f (get_or (d ∷ ds) n d))
    ∙ sym (length-map (d ∷ ds) (changed_at place f))) (λ k lt.
    let inside : k < length (d ∷ ds) =
    omega (arith, length-set (d ∷ ds) n (f (get_or (d ∷ ds) n d))) in
    elim (cases_eq k n) [
      | inl same ↦ grind (arith, nat_tests, get_or-set_same, changed_here, get_or-map)
      | inr ne ↦ grind (
        arith,
        get_or-set_other (d ∷ ds) n k (f (get_or (d ∷ ds) n d)) d ne,
        get_or-map (changed_at place f) (d ∷ ds) k d d inside,
        changed_elsewhere,
      )
    ])
  where
    some_is : (a b : ℕ) → Some a ≡ Some b → a ≡ b
    some_is a b e = cc

-- setting the column that the index names is setting the column of the place
pub set_is_map : (columns new : List ReadyValue) (index : List (Place × ℕ)) (place : Place)
    (n i state : ℕ) → IsIndexed columns index → find place_cmp place index ≡ Some n →
    ((d : ReadyValue) → new ≡ set columns n (set_cell (get_or columns n d) i state)) →
    new ≡ map (set_at place i state) columns
set_is_map columns new index place n i state is e each =
    changed_is_map (λ r. set_cell r i state) columns new index place n is e each

-- columns keep their places in the index
pub indexed_map : (f : ReadyValue → ReadyValue) (columns : List ReadyValue) (index : List (Place ×
    ℕ)) → ((ready : ReadyValue) → (f ready).place ≡ ready.place) → IsIndexed columns index →
    IsIndexed (map f columns) index
indexed_map f columns index keeps is = grind (arith, nat_tests, length-map, same_place)
  where
    same_place : (i : ℕ) (d : ReadyValue) → i < length columns →
        (get_or (map f columns) i d).place ≡ (get_or columns i d).place
    same_place i d lt = ap (λ (r : ReadyValue). r.place) (get_or-map f columns i d d lt) ∙
        keeps (get_or columns i d)

pub indexed_set : (columns new : List ReadyValue) (index : List (Place × ℕ)) (place : Place)
    (i state : ℕ) → new ≡ map (set_at place i state) columns → IsIndexed columns index →
    IsIndexed new index
indexed_set columns new index place i state is indexed =
    rw is (indexed_map (set_at place i state) columns index (set_place place i state) indexed)

-- no column of the place, none changed
pub map_unchanged : (f : ReadyValue → ReadyValue) (columns : List ReadyValue) (place : Place) →
    find place_cmp place (placed columns) ≡ None → map (changed_at place f) columns ≡ columns
map_unchanged f [] place none = refl
map_unchanged f (x ∷ xs) place none = grind (arith, nat_tests, map_unchanged f xs place)

map_unset : (columns : List ReadyValue) (place : Place) (i state : ℕ) →
    find place_cmp place (placed columns) ≡ None → map (set_at place i state) columns ≡ columns
map_unset columns place i state none = map_unchanged (λ r. set_cell r i state) columns place none

-- ---- a cell is put into a column

pub put_there : (terrain : Terrain) (place : Place) (i state : ℕ) (old new : List ReadyValue)
    (ready : ReadyValue) → find place_cmp place (placed old) ≡ Some ready →
    new ≡ map (set_at place i state) old → IsPut terrain place i state old new
put_there terrain place i state old new ready found is = grind (arith, nat_tests)

pub put_made : (terrain : Terrain) (place : Place) (i state : ℕ) (old new : List ReadyValue)
    (fresh : ReadyValue) → find place_cmp place (placed old) ≡ None → IsFresh terrain place fresh →
    new ≡ old ++ set_cell fresh i state ∷ [] → IsPut terrain place i state old new
put_made terrain place i state old new fresh none is e =
    grind (arith, nat_tests, map-append, map_unset, at_place)

-- ---- what a land is then

pub placed_map : (f : ReadyValue → ReadyValue) (columns : List ReadyValue) →
    ((ready : ReadyValue) → (f ready).place ≡ ready.place) → placed (map f columns) ≡
    map (λ e. (e.0, f e.1)) (placed columns)
placed_map f [] keeps = refl
placed_map f (x ∷ xs) keeps = rw (keeps x, placed_map f xs keeps) refl

-- a column that is found is of its place
pub found_place : (q : Place) (columns : List ReadyValue) (ready : ReadyValue) →
    find place_cmp q (placed columns) ≡ Some ready → ready.place ≡ q
found_place q [] ready e = absurd cc
found_place q (x ∷ xs) ready e = grind (arith, nat_tests, found_place q xs ready)

abbrev pub each : (ReadyValue → ReadyValue) → Columns → Columns
each f columns = map (λ e. (e.0, f e.1)) columns

abbrev pub looks : (ReadyValue → List ℕ) → Columns → List (Place × List ℕ)
looks look columns = map (λ e. (e.0, look e.1)) columns

abbrev pub places : Columns → List Place
places columns = map (λ e. e.0) columns

-- what is looked at stays, where it does in each column
looked_same : (look : ReadyValue → List ℕ) (f : ReadyValue → ReadyValue) (columns : Columns) →
    ((ready : ReadyValue) → look (f ready) ≡ look ready) → looks look (each f columns) ≡
    looks look columns
looked_same look f [] same = refl
looked_same look f (e ∷ es) same = rw (same e.1, looked_same look f es same) refl

pub places_same : (f : ReadyValue → ReadyValue) (columns : Columns) → places (each f columns) ≡
    places columns
places_same f [] = refl
places_same f (e ∷ es) = ap (λ (t : List Place). e.0 ∷ t) (places_same f es)

-- the columns with a cell set
abbrev pub all_set : Place → ℕ → ℕ → Columns → Columns
all_set place i state columns = map (λ e. (e.0, set_at place i state e.1)) columns

-- its states are those of the column with the cell set; the others stay
puts_set : (columns : List ReadyValue) (place : Place) (i state : ℕ) (ready : ReadyValue) →
    find place_cmp place (placed columns) ≡ Some ready →
    Puts (present_states (placed columns)) (present_states (all_set place i state (placed columns)))
    place (set ready.present.states i state)
puts_set columns place i state ready found q = grind (
  arith,
  find_map present q (all_set place i state (placed columns)),
  find_map (set_at place i state) q (placed columns),
  find_map present q (placed columns),
  by (find place_cmp q (placed columns)) refl,
)
  where
    some_is : (a b : ReadyValue) → Some a ≡ Some b → a ≡ b
    some_is a b e = cc

    by : (o : Option ReadyValue) → find place_cmp q (placed columns) ≡ o →
        option_map present (option_map (set_at place i state) o) ≡
        cond (eq_by_cmp place_cmp q place) (Some (set ready.present.states i state))
        (option_map present o)
    by None e = elim (eq_by_cmp place_cmp q place) as (λ b. eq_by_cmp place_cmp q place ≡ b →
        None ≡ cond b (Some (set ready.present.states i state)) None) [
          | true ↦ grind (arith, nat_tests)
          | false ↦ λ t. refl
        ] refl
    by (Some r) e = elim (eq_by_cmp place_cmp q place) as (λ b. eq_by_cmp place_cmp q place ≡ b →
        Some (set_at place i state r).present.states ≡
        cond b (Some (set ready.present.states i state)) (Some r.present.states)) [
          | true ↦ λ t.
              let here : q ≡ place = exact_places q place (is_equal (place_cmp q place) t) in
              let same : r ≡ ready =
              some_is r ready (sym e ∙ ap (λ (p : Place). find place_cmp p (placed columns)) here ∙
              found) in
              rw (same, at_place place i state ready (found_place place columns ready found)) refl
          | false ↦ λ t.
              rw (elsewhere place i state r
              (λ h. absurd
              (true≢false (sym (rw (sym h ∙ found_place q columns r e)
              (ap is_eq (tied_itself places_total q))) ∙ t)))) refl
        ] refl

-- the edits of a land with a cell of a ready column set
pub edits_set : (terrain : Terrain) (columns : List ReadyValue) (place : Place) (i state : ℕ)
    (ready : ReadyValue) → IsApart (placed columns) → find place_cmp place (placed columns) ≡
    Some ready → HasSizes ready.present → i < cells →
    kept_edits terrain (present_states (all_set place i state (placed columns))) ≡
    edited terrain (kept_edits terrain (present_states (placed columns))) (place, i) state
edits_set terrain columns place i state ready is found sizes lt =
    set_edits terrain (present_states (placed columns))
    (present_states (all_set place i state (placed columns))) place i state ready.present.states
    (apart present (placed columns) is) (apart present (all_set place i state (placed columns))
    (apart (set_at place i state) (placed columns) is)) (find_map present place (placed columns)
    ∙ ap (option_map present) found) (puts_set columns place i state ready found) lt
    (omega (arith, sizes.states_are))

-- and what was settled stays
pub settled_set : (terrain : Terrain) (columns : Columns) (place : Place) (i state : ℕ) →
    settled_states (all_set place i state columns) ≡ settled_states columns
settled_set terrain columns place i state = looked_same settled (set_at place i state) columns
    (λ r. ap (λ (c : ColumnValue). c.states) (set_settled place i state r))

-- ---- the chests

abbrev chest_edits : LandValue → Key → ℕ → ℕ → FinMap key_cmp (List Pile)
chest_edits land key old new = chests_after land.chests key old new

-- what a cell of a land is after another or the same was set
pub state_edited : (terrain : Terrain) (edits : FinMap key_cmp ℕ) (key q : Key) (state : ℕ) →
    state_at terrain (edited terrain edits key state) q ≡ cond (eq_by_cmp key_cmp q key) state
    (state_at terrain edits q)
state_edited terrain edits key q state =
    elim (eqb state (terrain_at terrain key)) as (λ b. eqb state (terrain_at terrain key) ≡ b →
    unwrap_or (get (cond b (remove edits key) (insert edits key state)) q)
    (terrain_at terrain q) ≡ cond (eq_by_cmp key_cmp q key) state (state_at terrain edits q)) [
      | true ↦ λ same. rw (get-remove keys_total edits key q)
          (elim (key_cmp q key) as (λ o. key_cmp q key ≡ o →
          unwrap_or (cond (is_eq o) None (get edits q)) (terrain_at terrain q) ≡
          cond (is_eq o) state (state_at terrain edits q)) [
            | Less ↦ λ e. refl
            | Equal ↦ λ e. rw (exact_keys q key e)
                (sym (eqb-true state (terrain_at terrain key) same))
            | Greater ↦ λ e. refl
          ] refl)
      | false ↦ λ other. rw (get-insert keys_total edits key state q)
          (elim (eq_by_cmp key_cmp q key) as (λ b. unwrap_or (cond b (Some state) (get edits q))
          (terrain_at terrain q) ≡ cond b state (state_at terrain edits q))
          [ true ↦ refl | false ↦ refl ])
    ] refl

-- each column stays of its place
pub own_set : (terrain : Terrain) (columns : List ReadyValue) (place : Place) (i state : ℕ)
    (q : Place) (r : ReadyValue) → ((s : ReadyValue) → find place_cmp q (placed columns) ≡ Some s →
    IsOwn terrain q s) → find place_cmp q (all_set place i state (placed columns)) ≡ Some r →
    IsOwn terrain q r
own_set terrain columns place i state q r own e = by (find place_cmp q (placed columns)) refl
    (sym (find_map (set_at place i state) q (placed columns)) ∙ e)
  where
    some_is : (a b : ReadyValue) → Some a ≡ Some b → a ≡ b
    some_is a b e = cc

    kept : (s : ReadyValue) → IsOwn terrain q s → IsOwn terrain q (set_at place i state s)
    kept s o = elim (eq_by_cmp place_cmp s.place place) as
        (λ b. IsOwn terrain q (cond b (set_cell s i state) s)) [
          | true ↦ grind (arith, nat_tests, length-set)
          | false ↦ o
        ]

    by : (o : Option ReadyValue) → find place_cmp q (placed columns) ≡ o →
        option_map (set_at place i state) o ≡ Some r → IsOwn terrain q r
    by o f h = grind (arith, nat_tests, some_is, kept)
