-- Sums over a land that is kept: what its edits and its chests come to.
use Rattle.std.proofs.Common.{◌≡◌, ℕ, zero, suc, ◌+◌, ◌<◌, Bool, true, false}
use Rattle.std.proofs.Common.{◌&&◌, List, [], ◌∷◌, ◌++◌, map, length, get_or, Option, Some}
use Rattle.std.proofs.Common.{None, IsSome, refl, sym, ap, ◌∙◌, arith}
use Rattle.std.specs.declared.cmp.Ordering.TheVariants.{Less}
use Rattle.std.specs.List.{range_with_len, sum_by, AllByRecursion}
use Rattle.std.specs.List.Sorted.{IsStrictlySortedBy}
use Rattle.std.specs.Prelude.{T}
use Rattle.std.specs.Option.{is_some, option_or}
use Rattle.std.specs.FinMap.{find, get, len, entries, entries_sorted, get-entries, contains_key}
use Rattle.std.specs.FinMap.{from_entries, get-from_entries, len-insert, len-empty}
use Rattle.std.specs.FinMap.Entries.{same_entries, is_sorted, below_all}
use Rattle.std.proofs.Common.{length-append}
use Rattle.std.proofs.lemmas.Bool.Decides.{nat_tests}
use Rattle.std.proofs.lemmas.List.Sums.{sum_by-cons}
use Rattle.mc_column.specs.Sizes.{cells}
use Rattle.mc_land.specs.declared.terrain.Terrain.{Terrain}
use Rattle.mc_land.specs.Places.{Place, Key, place_cmp, key_cmp}
use Rattle.mc_land.specs.Kept.{is_changed, changes, kept_edits, IsApart}
use Rattle.mc_land.specs.KeptLand.{Chests, Columns, placed, present_states, kept_land, IsIndexed}
use Rattle.mc_land.specs.KeptLand.{IsKeptLand}
use Rattle.mc_land.specs.Ready.{ReadyValue}
use Rattle.mc_land.specs.Sums.{changes_in}
use Rattle.mc_land.specs.Land.{is_chest, state_at, terrain_at}
use Rattle.mc_land.proofs.Orders.{keys_total, exact_keys}
use Rattle.mc_land.proofs.KeptLandFacts.{apart, found_indexed}
use Rattle.mc_land.proofs.EditsFacts.{find_append, listed, all_changes, changed_at, found_none}
use Rattle.mc_land.proofs.EditsFacts.{found_of_none, get_kept}

-- ---- edits

-- no key stands twice
abbrev IsOnce : List (Key × ℕ) → Type 0
IsOnce [] = Unit {0}
IsOnce (e ∷ es) = (find key_cmp e.0 es ≡ None) × IsOnce es

-- a map of entries with keys of their own has as many
once_len : (es : List (Key × ℕ)) → IsOnce es → len (from_entries {R = key_cmp} es) ≡ length es
once_len [] once = len-empty key_cmp ℕ
once_len (e ∷ es) once =
    let none : contains_key (from_entries {R = key_cmp} es) e.0 ≡ false =
    ap is_some (get-from_entries keys_total es e.0 ∙ once.0) in
    len-insert keys_total (from_entries es) e.0 e.1 ∙ rw none (omega (arith, once_len es once.1))

nothing_or : {A : Type 0} (x y : Option A) → x ≡ None → option_or x y ≡ y
nothing_or x y e = rw e refl

-- entries of one column, then those of others
once_front : (c : Place) (test : ℕ → Bool) (state : ℕ → ℕ) (a n : ℕ) (ys : List (Key × ℕ)) →
    ((i : ℕ) → find key_cmp (c, i) ys ≡ None) → IsOnce ys →
    IsOnce (listed c test state (range_with_len a n) ++ ys)
once_front c test state a zero ys none once = once
once_front c test state a (suc n) ys none once =
    grind (arith, once_front c test state (a + 1) n ys none once, find_append, found_none)

once_all : (terrain : Terrain) (columns : List (Place × List ℕ)) → IsApart columns →
    IsOnce (all_changes terrain columns)
once_all terrain [] is = tt
once_all terrain (e ∷ es) is = once_front e.0 (is_changed terrain e.0 e.1) (λ j. get_or e.1 j 0) 0
    cells (all_changes terrain es) (λ i. found_of_none terrain e.0 i es is.0)
    (once_all terrain es is.1)

-- each column is of one terrain
abbrev AreOf : Terrain → List ReadyValue → Type 0
AreOf terrain columns = (i : ℕ) (d : ReadyValue) → i < length columns →
    (get_or columns i d).terrain ≡ terrain

length_all : (terrain : Terrain) (columns : List ReadyValue) → AreOf terrain columns →
    length (all_changes terrain (present_states (placed columns))) ≡ sum_by changes_in columns
length_all terrain [] are = refl
length_all terrain (r ∷ rs) are =
    length-append (changes terrain r.place r.present.states)
    (all_changes terrain (present_states (placed rs)))
    ∙ ap (λ (n : ℕ). length (changes terrain r.place r.present.states) + n)
    (length_all terrain rs (λ i d lt. are (suc i) d (omega arith)))
    ∙ ap (λ (t : Terrain). length (changes t r.place r.present.states) + sum_by changes_in rs)
    (sym (are 0 r (omega arith)))
    ∙ sym (sum_by-cons changes_in r rs)

-- each kept column is of the land's terrain
are_of : (terrain : Terrain) (columns : List ReadyValue) (chests : Chests) (index : List (Place ×
    ℕ)) → IsKeptLand terrain (placed columns) chests → IsIndexed columns index →
    AreOf terrain columns
are_of terrain columns chests index kept is i d lt =
    (kept.own (get_or columns i d).place (get_or columns i d)
    (found_indexed (get_or columns i d).place columns index i d is (is.indexed i d lt))).terrain_is

-- the edits are as many as the changed cells of all columns
pub edits_len : (terrain : Terrain) (columns : List ReadyValue) (chests : Chests)
    (index : List (Place × ℕ)) → IsKeptLand terrain (placed columns) chests →
    IsIndexed columns index → sum_by changes_in columns ≡
    len (kept_edits terrain (present_states (placed columns)))
edits_len terrain columns chests index kept is =
    sym (once_len (all_changes terrain (present_states (placed columns)))
    (once_all terrain (present_states (placed columns)) (apart (λ r. r.present.states)
    (placed columns) kept.columns_apart)) ∙
    length_all terrain columns (are_of terrain columns chests index kept is))

-- an edit is a cell of its column, and not the terrain's
pub edit_is : (terrain : Terrain) (columns : Columns) (chests : Chests) (key : Key) (state : ℕ) →
    IsKeptLand terrain columns chests → get (kept_edits terrain (present_states columns)) key ≡
    Some state → (key.1 < cells) × (state ≡ terrain_at terrain key → ⊥)
edit_is terrain columns chests key state kept e = of (find place_cmp key.0 (present_states columns))
    (sym (get_kept terrain (present_states columns) key.0 key.1 (apart (λ r. r.present.states)
    columns kept.columns_apart)) ∙ e)
  where
    some_is : (a b : ℕ) → Some a ≡ Some b → a ≡ b
    some_is a b e = cc

    of : (o : Option (List ℕ)) → changed_at terrain key.0 key.1 o ≡ Some state → (key.1 < cells) ×
        (state ≡ terrain_at terrain key → ⊥)
    of o h = grind (arith, nat_tests)

pub edit_inside : (terrain : Terrain) (columns : Columns) (chests : Chests) (key : Key) →
    IsKeptLand terrain columns chests →
    IsSome (get (kept_edits terrain (present_states columns)) key) → key.1 < cells
edit_inside terrain columns chests key kept some = grind (arith, nat_tests, edit_is)

-- a chest is a cell of its column, and its id is a chest's
pub chest_inside : (terrain : Terrain) (columns : Columns) (chests : Chests) (key : Key) →
    IsKeptLand terrain columns chests → IsSome (get (kept_land terrain columns chests).chests key) →
    key.1 < cells
chest_inside terrain columns chests key kept some =
    kept.chests_inside key.0 key.1 (ap is_some (sym (get-from_entries keys_total chests key)) ∙
    some)

pub chest_is : (terrain : Terrain) (columns : Columns) (chests : Chests) (key : Key) →
    IsKeptLand terrain columns chests → IsSome (get (kept_land terrain columns chests).chests key) →
    is_chest (state_at terrain (kept_land terrain columns chests).edits key) ≡ true
chest_is terrain columns chests key kept some =
    sym (kept.chests_are key.0 key.1 (chest_inside terrain columns chests key kept some)) ∙
    ap is_some (sym (get-from_entries keys_total chests key)) ∙ some

-- ---- chests

below : (x : Key) (es : Chests) → AllByRecursion (λ y. key_cmp x y ≡ Less) (map (λ e. e.0) es) →
    T (below_all key_cmp x es)
below x [] all = tt
below x (e ∷ es) all = rw all.0 (below x es all.1)

both : (a b : Bool) → T a → T b → T (a && b)
both true b s t = t
both false b s t = absurd s

sorted : (es : Chests) → IsStrictlySortedBy key_cmp (map (λ e. e.0) es) → T (is_sorted key_cmp es)
unfolding IsStrictlySortedBy
sorted [] is = tt
sorted (e ∷ es) is = both (below_all key_cmp e.0 es) (is_sorted key_cmp es) (below e.0 es is.0)
    (sorted es is.1)

-- a map of entries in order has just those
pub entries_are : (es : Chests) → IsStrictlySortedBy key_cmp (map (λ e. e.0) es) →
    entries (from_entries {R = key_cmp} es) ≡ es
entries_are es is = same_entries key_cmp keys_total exact_keys (entries (from_entries es)) es
    (entries_sorted (from_entries es)) (sorted es is) (λ q. sym (get-entries (from_entries es) q) ∙
    get-from_entries keys_total es q)
