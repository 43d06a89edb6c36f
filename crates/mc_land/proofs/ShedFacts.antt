-- Columns that are taken away one after another, and what is left of a land.
use Rattle.std.proofs.Common.{◌≡◌, ℕ, zero, suc, ◌+◌, ◌-◌, ◌<◌, ◌≤◌, ◌&&◌, ◌||◌, nat_lt, eqb}
use Rattle.std.proofs.Common.{not, Bool, true, false, cond, List, [], ◌∷◌, length, map, get_or}
use Rattle.std.proofs.Common.{Option, Some, None, refl, sym, ap, ◌∙◌, arith, inl, inr}
use Rattle.std.proofs.lemmas.Bool.Decides.{nat_tests}
use Rattle.std.specs.declared.cmp.Ordering.{Ordering}
use Rattle.std.specs.declared.cmp.Ordering.TheVariants.{Less, Equal, Greater}
use Rattle.std.specs.Ordering.{is_eq, eq_by_cmp, ordering_then, nat_cmp}
use Rattle.std.specs.Cmp.{tied_itself}
use Rattle.std.specs.Option.{is_some, option_map}
use Rattle.std.specs.Map.{lookup}
use Rattle.std.specs.List.{filter, list_any, position, range_with_len, swap_remove}
use Rattle.std.specs.FinMap.{FinMap, find, get, entries, get-entries}
use Rattle.std.specs.FinSet as set'
use Rattle.std.proofs.lemmas.Bool.{cases_eq, cases_lt, lt-ltb, ne_eqb}
use Rattle.std.proofs.lemmas.Bool.{true≢false}
use Rattle.std.proofs.lemmas.List.{get_or_default, get_or-set_same, get_or-set_other, get_or-take}
use Rattle.std.proofs.lemmas.List.{length-set, length-take}
use Rattle.mc_column.specs.Sizes.{cells}
use Rattle.mc_land.specs.declared.terrain.Terrain.{Terrain}
use Rattle.mc_land.specs.Places.{Place, Key, place_cmp, key_cmp}
use Rattle.mc_land.specs.Land.{LandValue, states_of}
use Rattle.mc_land.specs.Kept.{is_changed, changes, kept_edits, IsApart}
use Rattle.mc_land.specs.KeptLand.{Columns, Chests, placed, present_states, settled_states}
use Rattle.mc_land.specs.KeptLand.{kept_land, IsIndexed, IsKeptLand}
use Rattle.mc_land.specs.Ready.{ReadyValue}
use Rattle.mc_land.specs.Sums.{changes_in}
use Rattle.mc_land.specs.Shed.{IsSettled, View, is_edited, shed_land, stays}
use Rattle.mc_land.specs.ShedCode.{AreKept, AreShed, IsShed, IsTakenAway, is_kept}
use Rattle.mc_land.proofs.Orders.{places_total, keys_total, exact_places}
use Rattle.mc_land.proofs.EditsFacts.{changed_at, get_kept}
use Rattle.mc_land.proofs.LandFacts.{same_edits}
use Rattle.mc_land.proofs.KeptLandFacts.{apart, find_map, found_indexed, found_unindexed}
use Rattle.mc_land.proofs.LookFacts.{present, settled, is_ready, states_ready}
use Rattle.mc_land.proofs.SetFacts.{found_place}
use Rattle.mc_land.proofs.TouchedFacts.{length-changes}

some_nat : (a b : ℕ) → Some a ≡ Some b → a ≡ b
some_nat a b e = cc

some_ready : (a b : ReadyValue) → Some a ≡ Some b → a ≡ b
some_ready a b e = cc

is_equal : (o : Ordering) → is_eq o ≡ true → o ≡ Equal
is_equal o e = grind (arith, nat_tests)

tied : (a b : Place) → a ≡ b → eq_by_cmp place_cmp a b ≡ true
tied a b e = rw e (ap is_eq (tied_itself places_total b))

untied : (a b : Place) → (a ≡ b → ⊥) → eq_by_cmp place_cmp a b ≡ false
untied a b ne = grind (arith, nat_tests)

-- ---- one column is taken away

-- the columns with the last one in place of one
length-swapped : (columns : List ReadyValue) (i : ℕ) (d : ReadyValue) → i < length columns →
    length (swap_remove columns i d) ≡ length columns - 1
length-swapped columns i d lt = grind (arith, nat_tests, length-take, length-set)

swapped_here : (columns : List ReadyValue) (i : ℕ) (d e : ReadyValue) → i + 1 < length columns →
    get_or (swap_remove columns i d) i e ≡ get_or columns (length columns - 1) d
swapped_here columns i d e lt = grind (arith, nat_tests, get_or-take, get_or-set_same)

swapped_other : (columns : List ReadyValue) (i k : ℕ) (d e : ReadyValue) → (k ≡ i → ⊥) →
    k + 1 < length columns → get_or (swap_remove columns i d) k e ≡ get_or columns k e
swapped_other columns i k d e ne lt = grind (arith, nat_tests, get_or-take, get_or-set_other)

-- whatever is read past the end, the columns are the same
pub swapped_default : (columns : List ReadyValue) (i : ℕ) (d e : ReadyValue) → i < length columns →
    swap_remove columns i d ≡ swap_remove columns i e
swapped_default columns i d e lt = grind (arith, nat_tests, get_or_default)

-- the index knows the one that was moved, not the one that is gone, and the others as before
pub record IsRepointed (columns : List ReadyValue) (index new : List (Place × ℕ)) (i : ℕ)
    (d : ReadyValue) : Type 0 where
  pub at_last : i + 1 < length columns →
      find place_cmp (get_or columns (length columns - 1) d).place new ≡ Some i
  pub at_gone : find place_cmp (get_or columns i d).place new ≡ None
  pub at_other : (q : Place) → (q ≡ (get_or columns (length columns - 1) d).place → ⊥) →
      (q ≡ (get_or columns i d).place → ⊥) → find place_cmp q new ≡ find place_cmp q index

-- two columns of an index are of two places
apart_places : (columns : List ReadyValue) (index : List (Place × ℕ)) (i j : ℕ) (d : ReadyValue) →
    IsIndexed columns index → i < length columns → j < length columns → (get_or columns i d).place ≡
    (get_or columns j d).place → i ≡ j
apart_places columns index i j d is lt lt' same = some_nat i j (sym (is.indexed i d lt) ∙
    ap (λ (p : Place). find place_cmp p index) same ∙ is.indexed j d lt')

-- a look-up in the new index, by cases
by_place : (columns : List ReadyValue) (index new : List (Place × ℕ)) (i : ℕ) (d : ReadyValue)
    (q : Place) (P : Option ℕ → Type 0) → IsIndexed columns index → i < length columns →
    IsRepointed columns index new i d → (i + 1 < length columns →
    q ≡ (get_or columns (length columns - 1) d).place → P (Some i)) →
    (q ≡ (get_or columns i d).place → P None) →
    ((q ≡ (get_or columns (length columns - 1) d).place → ⊥) → (q ≡ (get_or columns i d).place →
    ⊥) → P (find place_cmp q index)) → P (find place_cmp q new)
by_place columns index new i d q P is lt to moved gone other = grind (arith, nat_tests)

pub removed_indexed : (columns removed : List ReadyValue) (index new : List (Place × ℕ)) (i : ℕ)
    (d : ReadyValue) → IsIndexed columns index → i < length columns →
    IsRepointed columns index new i d → removed ≡ swap_remove columns i d → IsIndexed removed new
removed_indexed columns removed index new i d is lt to same =
    let len = length-swapped columns i d lt in
    rw same (record {
      listed = grind (arith, nat_tests);
      placed_at = λ q k e' e. by_place columns index new i d q (λ o. o ≡ Some k →
          (get_or (swap_remove columns i d) k e').place ≡ q) is lt to
          (λ before at h. let here : i ≡ k = some_nat i k h in
          ap (λ (n : ℕ). (get_or (swap_remove columns i d) n e').place) (sym here) ∙
          ap (λ (r : ReadyValue). r.place) (swapped_here columns i d e' before) ∙ sym at)
          (λ at h. absurd cc)
          (λ ne ne' h.
          let there = is.listed q k h in
          let not_i : k ≡ i → ⊥ = λ same'. ne' (sym (is.placed_at q k d h) ∙
          ap (λ (n : ℕ). (get_or columns n d).place) same') in
          let not_last : k ≡ length columns - 1 → ⊥ = λ last. ne (sym (is.placed_at q k d h) ∙
          ap (λ (n : ℕ). (get_or columns n d).place) last) in
          ap (λ (r : ReadyValue). r.place) (swapped_other columns i k d e' not_i
          (omega (arith, there, not_last))) ∙ is.placed_at q k e' h) e;
      indexed = grind (arith, swapped_here, swapped_other);
    })

-- what the index says is what is found, in both directions
by_index : (columns : List ReadyValue) (index : List (Place × ℕ)) (q : Place) (d : ReadyValue) →
    IsIndexed columns index → find place_cmp q (placed columns) ≡
    option_map (λ i. get_or columns i d) (find place_cmp q index)
by_index columns index q d is = grind (arith, nat_tests, found_unindexed, found_indexed)

-- the column that was taken away is found no more, and the others are as before
pub removed_found : (columns removed : List ReadyValue) (index new : List (Place × ℕ)) (i : ℕ)
    (d : ReadyValue) (q : Place) → IsIndexed columns index → i < length columns →
    IsRepointed columns index new i d → removed ≡ swap_remove columns i d →
    ((q ≡ (get_or columns i d).place → ⊥) → find place_cmp q (placed removed) ≡
    find place_cmp q (placed columns)) × (q ≡ (get_or columns i d).place →
    find place_cmp q (placed removed) ≡ None)
removed_found columns removed index new i d q is lt to same = grind (
  arith,
  removed_indexed columns removed index new i d is lt to same,
  by_index removed new q d,
  swapped_here columns i d d,
  found_indexed q columns index,
  found_unindexed q columns index is,
  swapped_other columns i,
)

-- ---- where the index is told

pub updated : (old new : List (Place × ℕ)) (k key q : Place) (w : Option ℕ) →
    lookup (λ y. is_eq (place_cmp q y)) new ≡ cond (is_eq (place_cmp k q)) w
    (lookup (λ y. is_eq (place_cmp q y)) old) → k ≡ key → find place_cmp q new ≡
    cond (eq_by_cmp place_cmp q key) w (find place_cmp q old)
updated old new k key q w h e = grind (arith, nat_tests)

pub pointed_some : (old new : List (Place × ℕ)) (place : Place) (i v : ℕ) →
    find place_cmp place old ≡ Some v →
    ((q : Place) → find place_cmp q new ≡ cond (eq_by_cmp place_cmp q place) (Some i)
    (find place_cmp q old)) → (q : Place) → find place_cmp q new ≡
    cond (eq_by_cmp place_cmp q place) (option_map (λ _. i) (find place_cmp q old))
    (find place_cmp q old)
pointed_some old new place i v there puts q = grind (arith, nat_tests)

pub pointed_none : (old new : List (Place × ℕ)) (place : Place) (i : ℕ) → find place_cmp place old ≡
    None → ((q : Place) → find place_cmp q new ≡ find place_cmp q old) → (q : Place) →
    find place_cmp q new ≡ cond (eq_by_cmp place_cmp q place)
    (option_map (λ _. i) (find place_cmp q old)) (find place_cmp q old)
pointed_none old new place i none same q = grind (arith, nat_tests)

pub pointed_at : (columns : List ReadyValue) (old new : List (Place × ℕ)) (p : Place)
    (ready : ReadyValue) (i : ℕ) → ready ≡ get_or columns i ready → p ≡ ready.place →
    ((q : Place) → find place_cmp q new ≡ cond (eq_by_cmp place_cmp q p)
    (option_map (λ _. i) (find place_cmp q old)) (find place_cmp q old)) →
    (d : ReadyValue) (q : Place) → i < length columns → find place_cmp q new ≡
    cond (eq_by_cmp place_cmp q (get_or columns i d).place)
    (option_map (λ _. i) (find place_cmp q old)) (find place_cmp q old)
pointed_at columns old new p ready i is of points d q lt = grind (arith, nat_tests, get_or_default)

-- the last one is taken away
pub repointed_last : (columns : List ReadyValue) (index new : List (Place × ℕ)) (i : ℕ)
    (d : ReadyValue) → length columns ≤ i + 1 →
    ((q : Place) → find place_cmp q new ≡ cond (eq_by_cmp place_cmp q (get_or columns i d).place)
    None (find place_cmp q index)) → IsRepointed columns index new i d
repointed_last columns index new i d last takes = grind (arith, nat_tests, tied, untied)

-- another one is, and the last one moved
pub repointed_more : (columns : List ReadyValue) (index gone new : List (Place × ℕ)) (i : ℕ)
    (d : ReadyValue) → IsIndexed columns index → i + 1 < length columns →
    ((q : Place) → find place_cmp q gone ≡ cond (eq_by_cmp place_cmp q (get_or columns i d).place)
    None (find place_cmp q index)) →
    ((q : Place) → find place_cmp q new ≡
    cond (eq_by_cmp place_cmp q (get_or columns (length columns - 1) d).place)
    (option_map (λ _. i) (find place_cmp q gone)) (find place_cmp q gone)) →
    IsRepointed columns index new i d
repointed_more columns index gone new i d is before takes points =
    grind (arith, nat_tests, apart_places, tied, untied)

-- an element passes exactly where a first one does
pub any_position : {X : Type 0} (p : X → Bool) (xs : List X) → list_any p xs ≡
    is_some (position p xs)
any_position p [] = refl
any_position p (x ∷ xs) = grind (arith, nat_tests, any_position p xs)

-- ---- one after another

pub shed_none : (views : List View) (old : List ReadyValue) (n : ℕ) → n ≡ length old →
    AreShed views old old n
shed_none views old n all = grind (arith, nat_tests)

-- the one below i stays, or is taken away
pub shed_more : (views : List View) (old now new : List ReadyValue) (index : List (Place × ℕ))
    (i z : ℕ) (d : ReadyValue) → z ≡ i + 1 → AreShed views old now z → IsIndexed now index →
    is_kept views (get_or now i d) ≡ true → new ≡ now → AreShed views old new i
shed_more views old now new index i z d step shed is stays' same =
    grind (arith, nat_tests, cases_eq, get_or_default)

pub shed_less : (views : List View) (old now new : List ReadyValue) (index : List (Place × ℕ))
    (i z : ℕ) (d : ReadyValue) → z ≡ i + 1 → AreShed views old now z → IsIndexed now index →
    is_kept views (get_or now i d) ≡ false → IsTakenAway now new i d → AreShed views old new i
shed_less views old now new index i z d step shed is goes taken =
    grind (arith, length-swapped, found_indexed, swapped_here, swapped_other)

-- where those before i were known to stay, all do
pub all_kept : (views : List View) (old new : List ReadyValue) (i n : ℕ) → i ≤ n →
    AreShed views old new i → AreKept views old n → AreKept views new (length new)
all_kept views old new i n le shed kept k d lt = elim (cases_lt k i) [
  | inl below ↦ ap (is_kept views) (shed.before k d below) ∙ kept k d (omega arith)
  | inr above ↦ shed.stay k d (omega arith) lt
]

pub shed_all : (views : List View) (old new : List ReadyValue) (index : List (Place × ℕ)) (i : ℕ) →
    AreShed views old new i → AreKept views new (length new) → IsIndexed new index →
    IsShed views old new
shed_all views old new index i shed kept is = grind (arith, nat_tests, true≢false, stays_there)
  where
    stays_there : (q : Place) (r : ReadyValue) → find place_cmp q (placed new) ≡ Some r →
        is_kept views r ≡ true
    stays_there q r there = elim (find place_cmp q index) as (λ o. find place_cmp q index ≡ o →
        is_kept views r ≡ true) [
          | None ↦ λ e. let none : None ≡ Some r = sym (found_unindexed q new index is e) ∙ there in
              absurd cc
          | Some k ↦ λ e.
              let same : get_or new k r ≡ r =
              some_ready (get_or new k r) r (sym (found_indexed q new index k r is e) ∙ there) in
              ap (is_kept views) (sym same) ∙ kept k r (is.listed q k e)
        ] refl

-- a column is taken away, where the index is told so
pub taken_away : (columns removed : List ReadyValue) (index gone new : List (Place × ℕ)) (i : ℕ)
    (d e : ReadyValue) → IsIndexed columns index → i < length columns →
    removed ≡ swap_remove columns i e →
    ((q : Place) → find place_cmp q gone ≡ cond (eq_by_cmp place_cmp q (get_or columns i e).place)
    None (find place_cmp q index)) → ((f : ReadyValue) (q : Place) → i < length removed →
    find place_cmp q new ≡ cond (eq_by_cmp place_cmp q (get_or removed i f).place)
    (option_map (λ _. i) (find place_cmp q gone)) (find place_cmp q gone)) →
    (length removed ≤ i → new ≡ gone) → IsIndexed removed new × IsTakenAway columns removed i d
taken_away columns removed index gone new i d e is lt same takes moved none =
    let same_d : removed ≡ swap_remove columns i d = same ∙ swapped_default columns i e d lt in
    let here : get_or columns i e ≡ get_or columns i d = get_or_default columns i e d lt in
    let takes_d : (q : Place) → find place_cmp q gone ≡
    cond (eq_by_cmp place_cmp q (get_or columns i d).place) None (find place_cmp q index) =
    λ q. takes q ∙ ap (λ (r : ReadyValue). cond (eq_by_cmp place_cmp q r.place) None
    (find place_cmp q index)) here in
    let len : length removed ≡ length columns - 1 = ap length same_d ∙ length-swapped columns i d lt
    in
    let to : IsRepointed columns index new i d = grind (
      arith,
      swapped_here columns i d d,
      repointed_more columns index gone new i d is,
      repointed_last columns index new i d,
    ) in (
      removed_indexed columns removed index new i d is lt to same_d,
      record {
        is = same_d;
        others = λ q. (removed_found columns removed index new i d q is lt to same_d).0;
        gone = λ q. (removed_found columns removed index new i d q is lt to same_d).1;
      },
    )

-- ---- which columns stay

-- a key of a column among some entries
pub any_found : (q : Place) (i state : ℕ) (es : List (Key × ℕ)) → find key_cmp (q, i) es ≡
    Some state → list_any (λ e. eq_by_cmp place_cmp q e.0.0) es ≡ true
any_found q i state [] e = absurd cc
any_found q i state (x ∷ xs) e =
    elim (place_cmp q x.0.0) as (λ o. place_cmp q x.0.0 ≡ o →
    cond (is_eq (ordering_then o (nat_cmp i x.0.1))) (Some x.1) (find key_cmp (q, i) xs) ≡
    Some state → (is_eq o || list_any (λ e. eq_by_cmp place_cmp q e.0.0) xs) ≡ true) [
      | Less ↦ λ o h. any_found q i state xs h
      | Equal ↦ λ o h. refl
      | Greater ↦ λ o h. any_found q i state xs h
    ] refl e

pub found_any : (q : Place) (es : List (Key × ℕ)) → list_any (λ e. eq_by_cmp place_cmp q e.0.0) es ≡
    true → (i : ℕ) × (is_some (find key_cmp (q, i) es) ≡ true)
found_any q [] e = absurd cc
found_any q (x ∷ xs) e =
    elim (eq_by_cmp place_cmp q x.0.0) as (λ b. eq_by_cmp place_cmp q x.0.0 ≡ b →
    (b || list_any (λ e. eq_by_cmp place_cmp q e.0.0) xs) ≡ true →
    (i : ℕ) × (is_some (cond (eq_by_cmp key_cmp (q, i) x.0) (Some x.1) (find key_cmp (q, i) xs))
    ≡ true)) [
      | true ↦ λ t h.
          let same : q ≡ x.0.0 = exact_places q x.0.0 (is_equal (place_cmp q x.0.0) t) in
          let here : eq_by_cmp key_cmp (q, x.0.1) x.0 ≡ true =
          rw same (ap is_eq (tied_itself keys_total (x.0.0, x.0.1))) in
          (x.0.1, rw here refl)
      | false ↦ λ t h. let rest = found_any q xs h in
          (rest.0, either (eq_by_cmp key_cmp (q, rest.0) x.0) (find key_cmp (q, rest.0) xs) rest.1)
    ] refl e
  where
    either : (b : Bool) (o : Option ℕ) → is_some o ≡ true → is_some (cond b (Some x.1) o) ≡ true
    either true o s = refl
    either false o s = s

-- no number of a range passes where none is counted, and one does where some are
none_passes : (p : ℕ → Bool) (a n i : ℕ) → length (filter p (range_with_len a n)) ≡ 0 → a ≤ i →
    i < a + n → p i ≡ false
none_passes p a zero i none le lt = absurd (omega arith)
none_passes p a (suc n) i none le lt = grind (arith, nat_tests, none_passes p (a + 1) n i)

some_passes : (p : ℕ → Bool) (a n : ℕ) → (length (filter p (range_with_len a n)) ≡ 0 → ⊥) →
    (i : ℕ) × ((a ≤ i) × (i < a + n) × (p i ≡ true))
some_passes p a zero some = absurd (some refl)
some_passes p a (suc n) some = grind (arith, nat_tests, some_passes p (a + 1) n)

-- the edit of a cell of a ready column
edit_at : (terrain : Terrain) (columns : Columns) (q : Place) (r : ReadyValue) (i : ℕ) →
    IsApart columns → find place_cmp q columns ≡ Some r →
    get (kept_edits terrain (present_states columns)) (q, i) ≡
    changed_at terrain q i (Some r.present.states)
edit_at terrain columns q r i is found = get_kept terrain (present_states columns) q i
    (apart present columns is) ∙ ap (changed_at terrain q i) (find_map present q columns ∙
    ap (option_map present) found)

no_edit : (terrain : Terrain) (q : Place) (i : ℕ) (states : List ℕ) →
    length (changes terrain q states) ≡ 0 → changed_at terrain q i (Some states) ≡ None
no_edit terrain q i states none = elim (nat_lt i cells) as (λ b. nat_lt i cells ≡ b →
    cond (b && is_changed terrain q states i) (Some (get_or states i 0)) None ≡ None) [
      | true ↦ grind (
        arith,
        none_passes (is_changed terrain q states) 0 cells i
            (sym (length-changes terrain q states) ∙ none),
      )
      | false ↦ λ t. refl
    ] refl

-- a ready column has edits exactly where some of its cells are not the terrain's
pub edited_is : (terrain : Terrain) (columns : Columns) (q : Place) (r : ReadyValue) →
    IsApart columns → find place_cmp q columns ≡ Some r → r.terrain ≡ terrain → r.place ≡ q →
    is_edited (kept_edits terrain (present_states columns)) q ≡ not (eqb (changes_in r) 0)
edited_is terrain columns q r is found of at =
    let edits = kept_edits terrain (present_states columns) in
    let count : changes_in r ≡ length (changes terrain q r.present.states) = rw (of, at) refl in
    elim (cases_eq (length (changes terrain q r.present.states)) 0) [
      | inl none ↦ rw (count, none) (elim (is_edited edits q) as (λ b. is_edited edits q ≡ b →
          b ≡ false) [
            | true ↦ λ t.
                let some = found_any q (entries edits) t in
                let gone : get edits (q, some.0) ≡ None =
                edit_at terrain columns q r some.0 is found ∙
                no_edit terrain q some.0 r.present.states none in
                absurd (true≢false (sym some.1 ∙ ap is_some (sym (get-entries edits (q, some.0)) ∙
                gone)))
            | false ↦ λ t. refl
          ] refl)
      | inr some ↦
          let one = some_passes (is_changed terrain q r.present.states) 0 cells
          (λ e. some (length-changes terrain q r.present.states ∙ e)) in
          let edit : get edits (q, one.0) ≡ Some (get_or r.present.states one.0 0) =
          edit_at terrain columns q r one.0 is found ∙
          rw (lt-ltb one.0 cells (omega (arith, one.1.1)), one.1.2) refl in
          rw (count, ne_eqb (length (changes terrain q r.present.states)) 0 some)
          (any_found q one.0 (get_or r.present.states one.0 0) (entries edits)
          (sym (get-entries edits (q, one.0)) ∙ edit))
    ]

pub stays_is : (terrain : Terrain) (columns : List ReadyValue) (chests : Chests) (views : List View)
    (q : Place) (r : ReadyValue) → IsKeptLand terrain (placed columns) chests →
    find place_cmp q (placed columns) ≡ Some r → stays (kept_land terrain (placed columns) chests)
    views q ≡ is_kept views r
stays_is terrain columns chests views q r kept found =
    let at : r.place ≡ q = found_place q columns r found in
    rw (
      edited_is terrain (placed columns) q r kept.columns_apart found
          (kept.own q r found).terrain_is at,
      at,
    ) refl

-- ---- what is left of a land

-- the columns of an index are apart
pub apart_indexed : (columns : List ReadyValue) (index : List (Place × ℕ)) →
    IsIndexed columns index → IsApart (placed columns)
apart_indexed columns index is = each columns (λ i j d lt lt' same. apart_places columns index i j d
    is lt lt' same)
  where
    nowhere : (q : Place) (rs : List ReadyValue) → ((j : ℕ) (d : ReadyValue) → j < length rs →
        (get_or rs j d).place ≡ q → ⊥) → find place_cmp q (placed rs) ≡ None
    nowhere q [] never = refl
    nowhere q (x ∷ xs) never = rw (untied q x.place (λ e. never 0 x (omega arith) (sym e)))
        (nowhere q xs (λ j d lt e. never (suc j) d (omega arith) e))

    each : (rs : List ReadyValue) → ((i j : ℕ) (d : ReadyValue) → i < length rs → j < length rs →
        (get_or rs i d).place ≡ (get_or rs j d).place → i ≡ j) → IsApart (placed rs)
    each [] two = tt
    each (x ∷ xs) two = (
      nowhere x.place xs (λ j d lt e.
          absurd (omega (arith, two 0 (suc j) d (omega arith) (omega arith) (sym e)))),
      each xs (λ i j d lt lt' e. omega (
        arith,
        two (suc i) (suc j) d (omega arith) (omega arith)
            e,
      )),
    )

-- what is found after is what was found before
pub found_before : (views : List View) (old new : List ReadyValue) (q : Place) (r : ReadyValue) →
    IsShed views old new → find place_cmp q (placed new) ≡ Some r → find place_cmp q (placed old) ≡
    Some r
found_before views old new q r shed there = by (find place_cmp q (placed old)) refl
  where
    by : (o : Option ReadyValue) → find place_cmp q (placed old) ≡ o →
        find place_cmp q (placed old) ≡ Some r
    by None e = let clash : None ≡ Some r = sym (shed.none q e) ∙ there in absurd cc
    by (Some s) e = kept_or (is_kept views s) refl
      where
        kept_or : (b : Bool) → is_kept views s ≡ b → find place_cmp q (placed old) ≡ Some r
        kept_or true t = e ∙ sym (shed.kept q s e t) ∙ there
        kept_or false t = let clash : None ≡ Some r = sym (shed.gone q s e t) ∙ there in absurd cc

-- shedding changes no edit
edits_stay : (look : ReadyValue → List ℕ) (terrain : Terrain) (old new : List ReadyValue)
    (views : List View) → IsApart (placed old) → IsApart (placed new) → IsShed views old new →
    ((q : Place) (r : ReadyValue) → find place_cmp q (placed old) ≡ Some r → is_kept views r ≡
    false → length (changes terrain q (look r)) ≡ 0) →
    kept_edits terrain (map (λ e. (e.0, look e.1)) (placed new)) ≡
    kept_edits terrain (map (λ e. (e.0, look e.1)) (placed old))
edits_stay look terrain old new views is is' shed own =
    grind (arith, nat_tests, same_edits, apart, find_map, changed_at, no_edit)

not_kept : (views : List View) (r : ReadyValue) → is_kept views r ≡ false → changes_in r ≡ 0
not_kept views r e = grind (arith, nat_tests)

-- each column of a settled land is as it was settled
pub as_settled : (terrain : Terrain) (columns : Columns) (chests : Chests) (q : Place)
    (r : ReadyValue) → IsKeptLand terrain columns chests →
    IsSettled (kept_land terrain columns chests) → find place_cmp q columns ≡ Some r →
    r.settled.states ≡ r.present.states
as_settled terrain columns chests q r kept settled' e =
    states_ready settled terrain columns chests q r kept e
    (kept.own q r e).settled_sizes.states_are
    ∙ ap (λ (m : FinMap key_cmp ℕ). states_of terrain m q) settled'.all
    ∙ sym (states_ready present terrain columns chests q r kept e
    (kept.own q r e).present_sizes.states_are)

pub shed_keeps : (terrain : Terrain) (old new : List ReadyValue) (index index' : List (Place × ℕ))
    (chests : Chests) (views : List View) → IsKeptLand terrain (placed old) chests ×
    IsIndexed old index → IsSettled (kept_land terrain (placed old) chests) → IsShed views old new →
    IsIndexed new index' → IsKeptLand terrain (placed new) chests ×
    (kept_land terrain (placed new) chests ≡ shed_land (kept_land terrain (placed old) chests)
    views)
shed_keeps terrain old new index index' chests views kept settled' shed is' =
    let apart' : IsApart (placed new) = apart_indexed new index' is' in
    let k = kept.0 in
    let present_own : (q : Place) (r : ReadyValue) → find place_cmp q (placed old) ≡ Some r →
    is_kept views r ≡ false → length (changes terrain q r.present.states) ≡ 0 =
    λ q r e goes. of_place q r (found_place q old r e) (k.own q r e).terrain_is
    (not_kept views r goes) in
    let settled_own : (q : Place) (r : ReadyValue) → find place_cmp q (placed old) ≡ Some r →
    is_kept views r ≡ false → length (changes terrain q r.settled.states) ≡ 0 =
    λ q r e goes. ap (λ (s : List ℕ). length (changes terrain q s))
    (as_settled terrain (placed old) chests q r k settled' e) ∙ present_own q r e goes in
    let edits : kept_edits terrain (present_states (placed new)) ≡
    kept_edits terrain (present_states (placed old)) = edits_stay present terrain old new views
    k.columns_apart apart' shed present_own in
    let settles : kept_edits terrain (settled_states (placed new)) ≡
    kept_edits terrain (settled_states (placed old)) = edits_stay settled terrain old new views
    k.columns_apart apart' shed settled_own in
    let ready : (kept_land terrain (placed new) chests).ready ≡
    set'.retain (kept_land terrain (placed old) chests).ready
    (stays (kept_land terrain (placed old) chests) views) =
    set'.same_set places_total exact_places _ _ (λ q. is_ready terrain (placed new) chests q ∙
    looked q (find place_cmp q (placed old)) refl ∙
    sym (set'.contains-retain (kept_land terrain (placed old) chests).ready
    (stays (kept_land terrain (placed old) chests) views) q
    (λ x e. ap (stays (kept_land terrain (placed old) chests) views)
    (sym (exact_places q x e))))) in (
      record {
        columns_apart = apart';
        chests_ordered = k.chests_ordered;
        chests_inside = k.chests_inside;
        own = λ q r e. k.own q r (found_before views old new q r shed e);
        chests_are = λ q i lt. k.chests_are q i lt ∙ rw edits refl;
      },
      same_land _ _ _ _ _ _ edits settles ready,
    )
  where
    of_place : (q : Place) (r : ReadyValue) → r.place ≡ q → r.terrain ≡ terrain → changes_in r ≡ 0 →
        length (changes terrain q r.present.states) ≡ 0
    of_place q r at of none = rw (← at, ← of) none

    looked : (q : Place) (o : Option ReadyValue) → find place_cmp q (placed old) ≡ o →
        is_some (find place_cmp q (placed new)) ≡
        (set'.contains (kept_land terrain (placed old) chests).ready q &&
        stays (kept_land terrain (placed old) chests) views q)
    looked q None e = rw (shed.none q e, is_ready terrain (placed old) chests q, e) refl
    looked q (Some r) e = rw (
      is_ready terrain (placed old) chests q,
      e,
      stays_is terrain old chests views q r kept.0 e,
    ) (kept_or (is_kept views r) refl)
      where
        kept_or : (b : Bool) → is_kept views r ≡ b → is_some (find place_cmp q (placed new)) ≡
            (true && b)
        kept_or true t = rw (shed.kept q r e t) refl
        kept_or false t = rw (shed.gone q r e t) refl

    same_land : (edits edits' : FinMap key_cmp ℕ) (settles settles' : FinMap key_cmp ℕ)
        (ready ready' : set'.FinSet place_cmp) → edits ≡ edits' → settles ≡ settles' →
        ready ≡ ready' → ◌≡◌ {A = LandValue} (record {
          terrain = terrain;
          edits = edits;
          settled = settles;
          chests = (kept_land terrain (placed old) chests).chests;
          ready = ready;
        })
        (record {
          terrain = terrain;
          edits = edits';
          settled = settles';
          chests = (kept_land terrain (placed old) chests).chests;
          ready = ready';
        })
    same_land edits edits' settles settles' ready ready' e f g = rw (e, f, g) refl
