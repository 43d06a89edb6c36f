-- What a search among entries of rising numbers finds, and what an edit there makes of their pairs.
use Rattle.std.proofs.Common.{◌≡◌, ℕ, zero, suc, ◌<◌, ◌≤◌, Bool, true, false, ◌&&◌, T, List, []}
use Rattle.std.proofs.Common.{◌∷◌, ◌-◌, length, get_or, Result, IfOk, IfErr}
use Rattle.std.proofs.Common.{ap, sym, ◌∙◌, arith, ◌⊎◌, inl, inr}
use Rattle.std.proofs.lemmas.Bool.Decides.{nat_tests}
use Rattle.std.specs.List.Sorted.{IsSearchInRange, IsBinarySearchResult, IsNonDecreasingBy}
use Rattle.std.specs.declared.cmp.Ordering.{Ordering}
use Rattle.std.specs.declared.cmp.Ordering.TheVariants.{Less, Equal, Greater}
use Rattle.std.specs.Ordering.{int_cmp, is_lt, ordering_index, ordering_reverse}
use Rattle.std.specs.Cmp.{int_cmp_total, int_ranked, tied_itself}
use Rattle.std.specs.FinMap.Entries.{below_all}
use lib.IntN.{ℤ}
use Rattle.mc_fields.specs.declared.position.Spot.{Spot}
use Rattle.mc_slots.specs.declared.pile.Pile.{Pile}
use Rattle.mc_view.specs.declared.tracker.Entry.{Entry}
use Rattle.mc_view.specs.KeptTold.{IsAbove, IsAt, IsBelow, IsGap, IsRising}
use Rattle.mc_view.specs.KeptTold.{pairs_of}

abbrev pub Pair : Type 0
Pair = ℤ × (Spot × Pile)

pub first : (a b : Bool) → T (a && b) → T a
first true b h = tt
first false b h = absurd h

pub second : (a b : Bool) → T (a && b) → T b
second true b h = h
second false b h = absurd h

pub less : (r : Ordering) → T (is_lt r) → r ≡ Less
less r h = grind (arith, nat_tests)

pub above : (x y : ℤ) → int_cmp x y ≡ Less → int_cmp y x ≡ Greater
above x y e = int_cmp_total.antisymm y x ∙ ap ordering_reverse e

pub below : (x y : ℤ) → int_cmp x y ≡ Greater → int_cmp y x ≡ Less
below x y e = int_cmp_total.antisymm y x ∙ ap ordering_reverse e

pub same : (x y : ℤ) → x ≡ y → int_cmp y x ≡ Equal
same x y e = ap (int_cmp y) e ∙ tied_itself int_cmp_total y

-- ---- the order by places

below_at : (eid : ℤ) (es : List Entry) → T (below_all int_cmp eid (pairs_of es)) →
    (i : ℕ) (d : Entry) → i < length es → int_cmp eid (get_or es i d).eid ≡ Less
below_at eid [] h i d lt = absurd (omega (arith, lt))
below_at eid (e ∷ es) h zero d lt = less _ (first _ _ h)
below_at eid (e ∷ es) h (suc i) d lt = below_at eid es (second _ _ h) i d (omega (arith, lt))

pub rising_at : (es : List Entry) → IsRising es → (i j : ℕ) (d : Entry) →
    i < j → j < length es → int_cmp (get_or es i d).eid (get_or es j d).eid ≡ Less
rising_at [] r i j d lt within = absurd (omega (arith, within))
rising_at (e ∷ es) r i zero d lt within = absurd (omega (arith, lt))
rising_at (e ∷ es) r zero (suc j) d lt within =
    below_at e.eid es (first _ _ r) j d (omega (arith, within))
rising_at (e ∷ es) r (suc i) (suc j) d lt within =
    rising_at es (second _ _ r) i j d (omega (arith, lt)) (omega (arith, within))

index_rises : (a b eid : ℤ) →
    int_cmp a b ≡ Less → ordering_index (int_cmp a eid) ≤ ordering_index (int_cmp b eid)
index_rises a b eid lt = grind (arith, nat_tests)

index_same : (es : List Entry) (eid : ℤ) (i j : ℕ) (d : Entry) → i ≡ j →
    ordering_index (int_cmp (get_or es i d).eid eid) ≤
    ordering_index (int_cmp (get_or es j d).eid eid)
index_same es eid i j d e = grind (arith, nat_tests)

cases_le : (i j : ℕ) → i ≤ j → (i < j) ⊎ (i ≡ j)
cases_le i j le = grind (arith, nat_tests)

searchable : (es : List Entry) (eid : ℤ) →
    IsRising es → IsNonDecreasingBy (λ e. ordering_index (int_cmp e.eid eid)) es
searchable es eid r i j d le within =
    grind (arith, nat_tests, cases_le, index_rises, rising_at, index_same)

pub record IsSearched (es : List Entry) (eid : ℤ) (r : Result ℕ ℕ) : Type 0 where
  pub found : IfOk r (IsAt es eid)
  pub absent : IfErr r (IsGap es eid)

pub searched : (es : List Entry) (eid : ℤ) (r : Result ℕ ℕ) →
    IsRising es → IsSearchInRange r (length es) →
    IsBinarySearchResult (λ e. int_cmp e.eid eid) es r → IsSearched es eid r
searched es eid r rising within is = grind (arith, nat_tests, int_ranked, searchable es eid rising)

-- ---- a gap by the two numbers beside it

less_than : (a b c : ℤ) → int_cmp a b ≡ Less → int_cmp b c ≡ Less → int_cmp a c ≡ Less
less_than a b c below_b below_c = grind (arith, nat_tests)

more_than : (a b c : ℤ) → int_cmp a c ≡ Greater → int_cmp a b ≡ Less → int_cmp b c ≡ Greater
more_than a b c above_c below_b = grind (arith, nat_tests)

module _ (es : List Entry) (eid : ℤ) (i : ℕ) (r : IsRising es) (within : i ≤ length es)
    (before : IsAbove es eid i) (after : IsBelow es eid i) where
  all_before : (j : ℕ) (d : Entry) → j < i → (j < i - 1) ⊎ (j ≡ i - 1) →
      int_cmp (get_or es j d).eid eid ≡ Less
  all_before j d lt (inl less) = less_than (get_or es j d).eid (get_or es (i - 1) d).eid eid
      (rising_at es r j (i - 1) d less (omega (arith, lt, within))) (before d (omega (arith, lt)))
  all_before j d lt (inr is) =
      ap (λ (k : ℕ). int_cmp (get_or es k d).eid eid) is ∙ before d (omega (arith, lt))

  all_after : (j : ℕ) (d : Entry) → j < length es → (i < j) ⊎ (i ≡ j) →
      int_cmp (get_or es j d).eid eid ≡ Greater
  all_after j d lt (inl less) = more_than (get_or es i d).eid (get_or es j d).eid eid
      (after d (omega (arith, less, lt))) (rising_at es r i j d less lt)
  all_after j d lt (inr is) =
      ap (λ (k : ℕ). int_cmp (get_or es k d).eid eid) (sym is) ∙ after d (omega (arith, is, lt))

  pub gap_between : IsGap es eid i
  gap_between = record {
    within = within;
    lower = λ j d lt. all_before j d lt (cases_le j (i - 1) (omega (arith, lt)));
    higher = λ j d le lt. all_after j d lt (cases_le i j le);
  }
