-- The columns of a set rise, and the set has each of them, so it lacks none of its own.
use Rattle.std.proofs.Common.{◌≡◌, ℕ, zero, suc, ◌+◌, ◌*◌, ◌<◌, ◌≤◌, true, ◌&&◌, not}
use Rattle.std.proofs.Common.{List, [], ◌∷◌, ◌++◌, unsigned_abs, refl, sym, ap, ◌∙◌, arith}
use Rattle.std.proofs.lemmas.Bool.Decides.{nat_tests}
use Rattle.std.proofs.lemmas.Int.{ints}
use Rattle.std.specs.Prelude.{◌==◌}
use Rattle.std.specs.List.{AllByRecursion, filter, flat_map}
use Rattle.std.specs.List.Sorted.{IsStrictlySortedBy}
use Rattle.std.specs.declared.cmp.Ordering.{Ordering}
use Rattle.std.specs.declared.cmp.Ordering.TheVariants.{Less}
use Rattle.std.specs.Ordering.{int_cmp, int_eq, ordering_then}
use lib.IntN.{ℤ, pos, ◌+ℤ◌, ◌-ℤ◌}
use lib.Signed.{◌<ℤ◌}
use Rattle.mc_column.specs.Places.{Place}
use Rattle.mc_view.specs.declared.view_set.ViewSet.{ViewSet}
use Rattle.mc_view.specs.Sets.{all_of, has, lacking}
use Rattle.mc_view.specs.Squares.{row_of, run_from}
use Rattle.mc_view.specs.Views.{is_in_view, view_of}
use Rattle.mc_view.proofs.Near.{both_near}

-- what holds of each element of two lists holds of each of both
all_joined : {A : Type 0} (P : A → Type 0) (xs ys : List A) → AllByRecursion P xs →
    AllByRecursion P ys → AllByRecursion P (xs ++ ys)
all_joined P [] ys first rest = rest
all_joined P (x ∷ xs) ys first rest = (first.0, all_joined P xs ys first.1 rest)

-- ---- the set has each of them

-- numbers at most d off another
abbrev AreNear : ℤ → ℕ → List ℤ → Type 0
AreNear middle d zs = AllByRecursion (λ (z : ℤ). unsigned_abs (z -ℤ middle) ≤ d) zs

run_near : (middle : ℤ) (d at n : ℕ) → at + n ≤ 2 * d + 1 →
    AreNear middle d (run_from (middle -ℤ pos d) at n)
run_near middle d at zero few = tt
run_near middle d at (suc n) few =
    (near middle d at (omega (arith, few)), run_near middle d (at + 1) n (omega (arith, few)))
  where
    near : (middle : ℤ) (d at : ℕ) → at < 2 * d + 1 →
        unsigned_abs (middle -ℤ pos d +ℤ pos at -ℤ middle) ≤ d
    near middle d at low = omega (arith, ints, low)

module _ (middle : Place) (d : ℕ) where
  abbrev AreInView : List Place → Type 0
  AreInView places = AllByRecursion (λ (place : Place). is_in_view middle d place ≡ true) places

  row_near : (x : ℤ) (zs : List ℤ) → unsigned_abs (x -ℤ middle.0) ≤ d → AreNear middle.1 d zs →
      AreInView (row_of zs x)
  row_near x [] near all = tt
  row_near x (z ∷ zs) near all = (
    both_near (unsigned_abs (x -ℤ middle.0)) (unsigned_abs (z -ℤ middle.1)) d near all.0,
    row_near x zs near all.1,
  )

  rows_near : (xs zs : List ℤ) → AreNear middle.0 d xs → AreNear middle.1 d zs →
      AreInView (flat_map (row_of zs) xs)
  rows_near [] zs near all = tt
  rows_near (x ∷ xs) zs near all =
      all_joined (λ (place : Place). is_in_view middle d place ≡ true) (row_of zs x)
      (flat_map (row_of zs) xs) (row_near x zs near.0 all) (rows_near xs zs near.1 all)

  view_members : AreInView (view_of middle d)
  unfolding view_of
  view_members = rows_near (run_from (middle.0 -ℤ pos d) 0 (2 * d + 1))
      (run_from (middle.1 -ℤ pos d) 0 (2 * d + 1))
      (run_near middle.0 d 0 (2 * d + 1) (omega arith))
      (run_near middle.1 d 0 (2 * d + 1) (omega arith))

-- each column of a set is in it
pub all_within : (view : ViewSet) →
    AllByRecursion (λ (place : Place). has view place ≡ true) (all_of view)
all_within view = view_members (view.cx, view.cz) view.d

none_lacking : (view : ViewSet) (places : List Place) →
    AllByRecursion (λ (place : Place). has view place ≡ true) places →
    filter (λ (place : Place). not (has view place)) places ≡ []
none_lacking view [] all = refl
none_lacking view (place ∷ places) all = rw all.0 (none_lacking view places all.1)

-- a set lacks nothing of itself
pub lacks_nothing : (view : ViewSet) → lacking view view ≡ []
lacks_nothing view = none_lacking view (all_of view) (all_within view)

-- nor of one that is equal
pub equal_lacks : (view other : ViewSet) →
    (int_eq view.cx other.cx && (int_eq view.cz other.cz && view.d == other.d)) ≡ true →
    lacking view other ≡ []
equal_lacks view other same =
    let x : view.cx ≡ other.cx = grind (arith, nat_tests) in
    let z : view.cz ≡ other.cz = grind (arith, nat_tests) in
    let d : view.d ≡ other.d = grind (arith, nat_tests) in
    sym (λ i. filter (λ (place : Place). not (is_in_view (x i, z i) (d i) place)) (all_of view))
    ∙ lacks_nothing view

-- ---- they rise

-- columns by their numbers, x first
abbrev by_numbers : Place → Place → Ordering
by_numbers a b = ordering_then (int_cmp a.0 b.0) (int_cmp a.1 b.1)

-- all of a list come behind an element
abbrev AreBehind : {K : Type 0} → (K → K → Ordering) → K → List K → Type 0
AreBehind order k ks = AllByRecursion (λ j. order k j ≡ Less) ks

run_behind : (first : ℤ) (before at n : ℕ) → before < at →
    AreBehind int_cmp (first +ℤ pos before) (run_from first at n)
run_behind first before at zero low = tt
run_behind first before at (suc n) low = (
  less (first +ℤ pos before) (first +ℤ pos at) (omega (arith, ints, low)),
  run_behind first before (at + 1) n (omega (arith, low)),
)
  where
    less : (x y : ℤ) → x <ℤ y → int_cmp x y ≡ Less
    less x y lt = grind (arith, nat_tests)

run_rises : (first : ℤ) (at n : ℕ) → IsStrictlySortedBy int_cmp (run_from first at n)
unfolding IsStrictlySortedBy
run_rises first at zero = tt
run_rises first at (suc n) =
    (run_behind first at (at + 1) n (omega arith), run_rises first (at + 1) n)

-- a row farther to the east, and rows
row_behind : (x y z : ℤ) (zs : List ℤ) → int_cmp x y ≡ Less →
    AreBehind by_numbers (x, z) (row_of zs y)
row_behind x y z [] low = tt
row_behind x y z (w ∷ zs) low =
    (ap (λ (o : Ordering). ordering_then o (int_cmp z w)) low, row_behind x y z zs low)

rows_behind : (x z : ℤ) (xs zs : List ℤ) → AreBehind int_cmp x xs →
    AreBehind by_numbers (x, z) (flat_map (row_of zs) xs)
rows_behind x z [] zs low = tt
rows_behind x z (y ∷ xs) zs low =
    all_joined (λ (place : Place). by_numbers (x, z) place ≡ Less) (row_of zs y)
    (flat_map (row_of zs) xs) (row_behind x y z zs low.0) (rows_behind x z xs zs low.1)

-- the rest of a row
rest_behind : (x z : ℤ) (zs : List ℤ) → AreBehind int_cmp z zs →
    AreBehind by_numbers (x, z) (row_of zs x)
rest_behind x z [] low = tt
rest_behind x z (w ∷ zs) low = (grind (arith, nat_tests, low.0), rest_behind x z zs low.1)

-- a row before places that are behind all of it
row_first : (x : ℤ) (zs : List ℤ) (rest : List Place) → IsStrictlySortedBy int_cmp zs →
    ((z : ℤ) → AreBehind by_numbers (x, z) rest) → IsStrictlySortedBy by_numbers rest →
    IsStrictlySortedBy by_numbers (row_of zs x ++ rest)
unfolding IsStrictlySortedBy
row_first x [] rest up behind rises = rises
row_first x (z ∷ zs) rest up behind rises = (
  all_joined (λ (place : Place). by_numbers (x, z) place ≡ Less) (row_of zs x) rest
      (rest_behind x z zs up.0) (behind z),
  row_first x zs rest up.1 behind rises,
)

rows_rise : (xs zs : List ℤ) → IsStrictlySortedBy int_cmp xs → IsStrictlySortedBy int_cmp zs →
    IsStrictlySortedBy by_numbers (flat_map (row_of zs) xs)
unfolding IsStrictlySortedBy
rows_rise [] zs ups up = tt
rows_rise (x ∷ xs) zs ups up =
    row_first x zs (flat_map (row_of zs) xs) up (λ z. rows_behind x z xs zs ups.0)
    (rows_rise xs zs ups.1 up)

-- the columns of a set rise
pub all_rise : (view : ViewSet) → IsStrictlySortedBy by_numbers (all_of view)
unfolding view_of
all_rise view =
    rows_rise (run_from (view.cx -ℤ pos view.d) 0 (2 * view.d + 1))
    (run_from (view.cz -ℤ pos view.d) 0 (2 * view.d + 1))
    (run_rises (view.cx -ℤ pos view.d) 0 (2 * view.d + 1))
    (run_rises (view.cz -ℤ pos view.d) 0 (2 * view.d + 1))
