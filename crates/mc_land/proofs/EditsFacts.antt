-- The edits that kept columns stand for, looked up at one cell.
use Rattle.std.proofs.Common.{◌≡◌, nat_lt, ◌&&◌, ℕ, zero, suc, ◌+◌, ◌<◌, ◌≤◌, Bool, true, false}
use Rattle.std.proofs.Common.{cond, List, [], ◌∷◌, ◌++◌, map, get_or, Option, Some, None, refl, sym}
use Rattle.std.proofs.Common.{ap, ◌∙◌, arith, inl, inr}
use Rattle.std.proofs.lemmas.Bool.Decides.{nat_tests}
use Rattle.std.specs.declared.cmp.Ordering.TheVariants.{Less, Equal, Greater}
use Rattle.std.specs.Ordering.{nat_cmp, is_eq, eq_by_cmp, ordering_then}
use Rattle.std.specs.Cmp.{tied_itself, nat_cmp_total}
use Rattle.std.proofs.lemmas.Bool.{cases_eq, ltb-true, ltb-false}
use Rattle.std.proofs.lemmas.Map.Lookups.{exact_unsigned}
use Rattle.std.specs.declared.cmp.Ordering.{Ordering}
use Rattle.std.specs.Option.{option_or}
use Rattle.std.specs.List.{filter, flat_map, range_with_len}
use Rattle.std.specs.FinMap.{find, get, get-from_entries}
use Rattle.mc_column.specs.Sizes.{cells}
use Rattle.mc_land.specs.declared.terrain.Terrain.{Terrain}
use Rattle.mc_land.specs.Places.{Place, Key, place_cmp, key_cmp}
use Rattle.mc_land.specs.Kept.{is_changed, changes, kept_edits, IsApart}
use Rattle.mc_land.proofs.Orders.{places_total, keys_total, exact_places}

-- looking up in two lists, one after the other
pub find_append : (q : Key) (xs ys : List (Key × ℕ)) → find key_cmp q (xs ++ ys) ≡
    option_or (find key_cmp q xs) (find key_cmp q ys)
find_append q [] ys = refl
find_append q (x ∷ xs) ys =
    elim (eq_by_cmp key_cmp q x.0) as (λ b. cond b (Some x.1) (find key_cmp q (xs ++ ys)) ≡
    option_or (cond b (Some x.1) (find key_cmp q xs)) (find key_cmp q ys)) [
      | true ↦ refl
      | false ↦ find_append q xs ys
    ]

key_at : Place → ℕ → Key
key_at c i = (c, i)

-- two keys of one column tie where their indices are equal
pub same_column : (c : Place) (i j : ℕ) → eq_by_cmp key_cmp (c, i) (c, j) ≡ is_eq (nat_cmp i j)
same_column c i j = ap (λ o. is_eq (ordering_then o (nat_cmp i j))) (tied_itself places_total c)

pub other_column : (c d : Place) (i j : ℕ) → eq_by_cmp place_cmp c d ≡ false →
    eq_by_cmp key_cmp (c, i) (d, j) ≡ false
other_column c d i j = elim (place_cmp c d) as (λ o. is_eq o ≡ false →
    is_eq (ordering_then o (nat_cmp i j)) ≡ false) [
      | Less ↦ λ e. refl
      | Equal ↦ λ e. absurd cc
      | Greater ↦ λ e. refl
    ]

-- entries of a column at some of the indices from a on
abbrev pub listed : Place → (ℕ → Bool) → (ℕ → ℕ) → List ℕ → List (Key × ℕ)
listed c test state indices = map (λ i. ((c, i), state i)) (filter test indices)

-- of another column none is found
pub found_elsewhere : (c d : Place) (test : ℕ → Bool) (state : ℕ → ℕ) (i : ℕ) (indices : List ℕ) →
    eq_by_cmp place_cmp c d ≡ false → find key_cmp (c, i) (listed d test state indices) ≡ None
found_elsewhere c d test state i [] apart = refl
found_elsewhere c d test state i (j ∷ js) apart =
    elim (test j) as (λ b. find key_cmp (c, i) (map (λ k. ((d, k), state k))
    (cond b (j ∷ filter test js) (filter test js))) ≡ None) [
      | true ↦ rw (other_column c d i j apart) (found_elsewhere c d test state i js apart)
      | false ↦ found_elsewhere c d test state i js apart
    ]

pub nat_cmp_same : (i : ℕ) → is_eq (nat_cmp i i) ≡ true
nat_cmp_same i = ap is_eq (tied_itself nat_cmp_total i)

pub nat_cmp_other : (i j : ℕ) → (i ≡ j → ⊥) → is_eq (nat_cmp i j) ≡ false
nat_cmp_other i j ne = elim (nat_cmp i j) as (λ o. nat_cmp i j ≡ o → is_eq o ≡ false) [
  | Less ↦ λ e. refl
  | Equal ↦ λ e. absurd (ne (exact_unsigned i j e))
  | Greater ↦ λ e. refl
] refl

-- of a column none is found where the index is not listed, or does not pass
pub found_none : (c : Place) (test : ℕ → Bool) (state : ℕ → ℕ) (i a n : ℕ) →
    (a ≤ i → i < a + n → test i ≡ false) →
    find key_cmp (c, i) (listed c test state (range_with_len a n)) ≡ None
found_none c test state i a zero fails = refl
found_none c test state i a (suc n) fails =
    let rest : find key_cmp (c, i) (listed c test state (range_with_len (a + 1) n)) ≡ None =
    found_none c test state i (a + 1) n (λ le lt. fails (omega arith) (omega arith)) in
    elim (test a) as (λ b. test a ≡ b →
    find key_cmp (c, i) (map (λ k. ((c, k), state k))
    (cond b (a ∷ filter test (range_with_len (a + 1) n))
    (filter test (range_with_len (a + 1) n)))) ≡ None) [
      | true ↦ λ passes. elim (cases_eq i a) [
        | inl e ↦ let here : test i ≡ false = fails (omega arith) (omega arith) in let p : true ≡
            false = sym passes ∙ ap test (sym e) ∙ here in absurd cc
        | inr ne ↦ rw (same_column c i a, nat_cmp_other i a ne) rest
      ]
      | false ↦ λ fail. rest
    ] refl

-- and its state is found where it is listed and passes
pub found_one : (c : Place) (test : ℕ → Bool) (state : ℕ → ℕ) (i a n : ℕ) → a ≤ i → i < a + n →
    test i ≡ true → find key_cmp (c, i) (listed c test state (range_with_len a n)) ≡ Some (state i)
found_one c test state i a zero le lt passes = absurd (omega arith)
found_one c test state i a (suc n) le lt passes =
    elim (cases_eq i a) [
      | inl e ↦ let here : test a ≡ true = ap test (sym e) ∙ passes in
          rw (here, same_column c i a, sym e, nat_cmp_same i) refl
      | inr ne ↦
          let rest : find key_cmp (c, i) (listed c test state (range_with_len (a + 1) n)) ≡
          Some (state i) = found_one c test state i (a + 1) n (omega arith) (omega arith) passes
          in
          elim (test a) as (λ b. find key_cmp (c, i) (map (λ k. ((c, k), state k))
          (cond b (a ∷ filter test (range_with_len (a + 1) n))
          (filter test (range_with_len (a + 1) n)))) ≡ Some (state i)) [
            | true ↦ rw (same_column c i a, nat_cmp_other i a ne) rest
            | false ↦ rest
          ]
    ]

-- ---- all columns

abbrev pub all_changes : Terrain → List (Place × List ℕ) → List (Key × ℕ)
all_changes terrain columns = flat_map (λ e. changes terrain e.0 e.1) columns

-- what an edit of a cell is, from the states of its column
abbrev pub changed_at : Terrain → Place → ℕ → Option (List ℕ) → Option ℕ
changed_at terrain c i None = None
changed_at terrain c i (Some states) = cond (nat_lt i cells && is_changed terrain c states i)
    (Some (get_or states i 0)) None

or_nothing : {A : Type 0} (x y : Option A) → y ≡ None → option_or x y ≡ x
or_nothing None y e = e
or_nothing (Some a) y e = refl

nothing_or : {A : Type 0} (x y : Option A) → x ≡ None → option_or x y ≡ y
nothing_or x y e = rw e refl

-- of one column, what it is
pub found_here : (terrain : Terrain) (c : Place) (i : ℕ) (states : List ℕ) →
    find key_cmp (c, i) (changes terrain c states) ≡ changed_at terrain c i (Some states)
found_here terrain c i states =
    elim (nat_lt i cells) as (λ b. nat_lt i cells ≡ b →
    find key_cmp (c, i) (changes terrain c states) ≡ cond (b && is_changed terrain c states i)
    (Some (get_or states i 0)) None) [
      | true ↦ λ inside. elim (is_changed terrain c states i) as (λ b. is_changed terrain c states i
          ≡ b → find key_cmp (c, i) (changes terrain c states) ≡ cond b (Some (get_or states i 0))
          None) [
            | true ↦ λ passes. found_one c (is_changed terrain c states) (λ j. get_or states j 0) i
                0 cells (omega arith) (omega (arith, ltb-true i cells inside)) passes
            | false ↦ λ fails. found_none c (is_changed terrain c states) (λ j. get_or states j 0) i
                0 cells (λ le lt. fails)
          ] refl
      | false ↦ λ past. found_none c (is_changed terrain c states) (λ j. get_or states j 0) i 0
          cells (λ le lt. absurd (omega (arith, ltb-false i cells past)))
    ] refl

-- of a column that is not there, none
pub found_of_none : (terrain : Terrain) (c : Place) (i : ℕ) (columns : List (Place × List ℕ)) →
    find place_cmp c columns ≡ None → find key_cmp (c, i) (all_changes terrain columns) ≡ None
found_of_none terrain c i [] none = refl
found_of_none terrain c i (e ∷ es) none =
    elim (eq_by_cmp place_cmp c e.0) as (λ b. eq_by_cmp place_cmp c e.0 ≡ b →
    cond b (Some e.1) (find place_cmp c es) ≡ None →
    find key_cmp (c, i) (changes terrain e.0 e.1 ++ all_changes terrain es) ≡ None) [
      | true ↦ λ t h. absurd cc
      | false ↦ λ t h.
          find_append (c, i) (changes terrain e.0 e.1) (all_changes terrain es)
          ∙ nothing_or (find key_cmp (c, i) (changes terrain e.0 e.1))
          (find key_cmp (c, i) (all_changes terrain es))
          (found_elsewhere c e.0 (is_changed terrain e.0 e.1) (λ j. get_or e.1 j 0) i
          (range_with_len 0 cells) t)
          ∙ found_of_none terrain c i es h
    ] refl none

-- an edit is looked up in its column
pub found_in : (terrain : Terrain) (c : Place) (i : ℕ) (columns : List (Place × List ℕ)) →
    IsApart columns → find key_cmp (c, i) (all_changes terrain columns) ≡
    changed_at terrain c i (find place_cmp c columns)
found_in terrain c i [] apart = refl
found_in terrain c i (e ∷ es) apart =
    elim (eq_by_cmp place_cmp c e.0) as (λ b. eq_by_cmp place_cmp c e.0 ≡ b →
    find key_cmp (c, i) (changes terrain e.0 e.1 ++ all_changes terrain es) ≡
    changed_at terrain c i (cond b (Some e.1) (find place_cmp c es))) [
      | true ↦ λ t.
          let here : c ≡ e.0 = exact_places c e.0 (is_equal (place_cmp c e.0) t) in
          let none : find place_cmp c es ≡ None = ap (λ (d : Place). find place_cmp d es) here ∙
          apart.0 in
          find_append (c, i) (changes terrain e.0 e.1) (all_changes terrain es)
          ∙ or_nothing (find key_cmp (c, i) (changes terrain e.0 e.1))
          (find key_cmp (c, i) (all_changes terrain es)) (found_of_none terrain c i es none)
          ∙ ap (λ (d : Place). find key_cmp (c, i) (changes terrain d e.1)) (sym here)
          ∙ found_here terrain c i e.1
      | false ↦ λ t.
          find_append (c, i) (changes terrain e.0 e.1) (all_changes terrain es)
          ∙ nothing_or (find key_cmp (c, i) (changes terrain e.0 e.1))
          (find key_cmp (c, i) (all_changes terrain es))
          (found_elsewhere c e.0 (is_changed terrain e.0 e.1) (λ j. get_or e.1 j 0) i
          (range_with_len 0 cells) t)
          ∙ found_in terrain c i es apart.1
    ] refl
  where
    is_equal : (o : Ordering) → is_eq o ≡ true → o ≡ Equal
    is_equal o e = grind (arith, nat_tests)

pub get_kept : (terrain : Terrain) (columns : List (Place × List ℕ)) (c : Place) (i : ℕ) →
    IsApart columns → get (kept_edits terrain columns) (c, i) ≡
    changed_at terrain c i (find place_cmp c columns)
get_kept terrain columns c i apart = get-from_entries keys_total (all_changes terrain columns) (
  c,
  i,
) ∙ found_in terrain c i columns apart
