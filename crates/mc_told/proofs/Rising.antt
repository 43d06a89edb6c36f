-- Keys that strictly rise, and the columns of a view, which do.
use Rattle.std.proofs.Common.{◌≡◌, ℕ, zero, suc, ◌+◌, ◌*◌, ◌<◌, Bool, true, ◌&&◌, T, List, [], ◌∷◌}
use Rattle.std.proofs.Common.{◌++◌, map, refl, ap, ◌∙◌, arith}
use Rattle.std.proofs.lemmas.Bool.Decides.{nat_tests}
use Rattle.std.specs.List.{flat_map, range_with_len}
use Rattle.std.specs.declared.cmp.Ordering.{Ordering}
use Rattle.std.specs.Ordering.{int_cmp, is_lt}
use Rattle.std.specs.FinMap.{is_sorted}
use Rattle.std.specs.FinMap.Entries.{below_all}
use lib.IntN.{ℤ, pos, ◌+ℤ◌, ◌-ℤ◌}
use lib.Signed.{◌<ℤ◌}
use Rattle.mc_land.specs.Places.{Place, place_cmp}
use Rattle.mc_view.specs.Views.{run_of, view_of}
use Rattle.mc_told.proofs.Ordered.{both, first, second}

module _ {K : Type 0} (R : K → K → Ordering) where
  abbrev pub below_keys : K → List K → Bool
  below_keys k [] = true
  below_keys k (x ∷ xs) = is_lt (R k x) && below_keys k xs

  abbrev pub rising : List K → Bool
  rising [] = true
  rising (x ∷ xs) = below_keys x xs && rising xs

  below_is : {X : Type 0} (k : K) (es : List (K × X)) →
      below_all R k es ≡ below_keys k (map (λ e. e.0) es)
  below_is k [] = refl
  below_is k (e ∷ es) = ap (λ (b : Bool). is_lt (R k e.0) && b) (below_is k es)

  -- entries are in order where their keys rise
  pub sorted_is : {X : Type 0} (es : List (K × X)) → is_sorted R es ≡ rising (map (λ e. e.0) es)
  sorted_is [] = refl
  sorted_is (e ∷ es) = ap (λ (b : Bool). b && is_sorted R es) (below_is e.0 es)
      ∙ ap (λ (b : Bool). below_keys e.0 (map (λ f. f.0) es) && b) (sorted_is es)

  below_joined : (k : K) (xs ys : List K) → T (below_keys k xs) → T (below_keys k ys) →
      T (below_keys k (xs ++ ys))
  below_joined k [] ys a b = b
  below_joined k (x ∷ xs) ys a b = both _ _ (first _ _ a) (below_joined k xs ys (second _ _ a) b)

-- ---- runs of numbers

pub less : (x y : ℤ) → x <ℤ y → T (is_lt (int_cmp x y))
less x y lt = grind (arith, nat_tests)

run_below : (first : ℤ) (a b n : ℕ) → a < b → T (below_keys int_cmp (first +ℤ pos a) (map (λ i.
    first +ℤ pos i) (range_with_len b n)))
run_below first a b zero lt = tt
run_below first a b (suc n) lt = grind (arith, nat_tests, run_below first a (b + 1) n)

run_rising : (first : ℤ) (a n : ℕ) → T (rising int_cmp (map (λ i. first +ℤ pos i) (range_with_len a
    n)))
run_rising first a zero = tt
run_rising first a (suc n) = both _ _ (run_below first a (a + 1) n (omega arith)) (run_rising first
    (a + 1) n)

-- ---- rows of places

row_before : (x y z : ℤ) (zs : List ℤ) → T (is_lt (int_cmp x y)) →
    T (below_keys place_cmp (x, z) (map (λ w. (y, w)) zs))
row_before x y z [] lt = tt
row_before x y z (w ∷ zs) lt = grind (arith, nat_tests, row_before x y z zs lt)

rows_before : (x z : ℤ) (xs zs : List ℤ) → T (below_keys int_cmp x xs) →
    T (below_keys place_cmp (x, z) (flat_map (λ y. map (λ w. (y, w)) zs) xs))
rows_before x z [] zs h = tt
rows_before x z (y ∷ xs) zs h = below_joined place_cmp (x, z) (map (λ w. (y, w)) zs) (flat_map (λ y.
    map (λ w. (y, w)) zs) xs) (row_before x y z zs (first _ _ h)) (rows_before x z xs zs (second _ _
    h))

in_row_below : (x z : ℤ) (zs : List ℤ) → T (below_keys int_cmp z zs) →
    T (below_keys place_cmp (x, z) (map (λ w. (x, w)) zs))
in_row_below x z [] h = tt
in_row_below x z (w ∷ zs) h = grind (arith, nat_tests, in_row_below x z zs)

-- a row before places that are after all of it
row_then : (x : ℤ) (zs : List ℤ) (rest : List Place) → T (rising int_cmp zs) → ((z : ℤ) →
    T (below_keys place_cmp (x, z) rest)) → T (rising place_cmp rest) →
    T (rising place_cmp (map (λ w. (x, w)) zs ++ rest))
row_then x [] rest up after rises = rises
row_then x (z ∷ zs) rest up after rises =
    both _ _ (below_joined place_cmp (x, z) (map (λ w. (x, w)) zs) rest (in_row_below x z zs (first
    _ _ up)) (after z)) (row_then x zs rest (second _ _ up) after rises)

rows_rising : (xs zs : List ℤ) → T (rising int_cmp xs) → T (rising int_cmp zs) →
    T (rising place_cmp (flat_map (λ x. map (λ z. (x, z)) zs) xs))
rows_rising [] zs ups up = tt
rows_rising (x ∷ xs) zs ups up =
    grind (arith, nat_tests, rows_rising xs zs, row_then, rows_before, first, second)

-- the columns of a view rise
pub view_rising : (middle : Place) (d : ℕ) → T (rising place_cmp (view_of middle d))
unfolding view_of
view_rising middle d =
    rows_rising (run_of (middle.0 -ℤ pos d) (2 * d + 1)) (run_of (middle.1 -ℤ pos d) (2 * d + 1))
    (run_rising (middle.0 -ℤ pos d) 0 (2 * d + 1)) (run_rising (middle.1 -ℤ pos d) 0 (2 * d +
    1))
