-- What a search among rows of rising numbers finds, and what an edit of the rows makes of the map
-- that they stand for.
use Rattle.std.proofs.Common.{Result, Ok, Err, IfOk, IfErr, ◌≡◌, ℕ, zero, suc, ◌<◌, ◌≤◌, T, List, []}
use Rattle.std.proofs.Common.{◌∷◌, length, get_or, set, cond, Some, None, inl, inr, refl, sym, subst}
use Rattle.std.proofs.Common.{ap, ◌∙◌, arith, ◌⊎◌}
use Rattle.std.proofs.lemmas.Bool.Decides.{nat_tests}
use Rattle.std.specs.List.{insert}
use Rattle.std.specs.List.Sorted.{IsSearchInRange, IsBinarySearchResult, IsNonDecreasingBy}
use Rattle.std.specs.declared.cmp.Ordering.{Ordering}
use Rattle.std.specs.declared.cmp.Ordering.TheVariants.{Less, Greater}
use Rattle.std.specs.Ordering.{int_cmp, is_eq, ordering_index}
use Rattle.std.specs.Cmp.{int_cmp_total}
use Rattle.std.specs.FinMap as map
use Rattle.std.specs.FinMap.{entries-from_sorted, entries-insert, find, from_sorted, get, get-empty}
use Rattle.std.specs.FinMap.{get-from_sorted, int_cmp-IsAntisymmetric, is_sorted, put}
use Rattle.std.specs.FinMap.{same_entries_map, same_map}
use Rattle.std.specs.FinMap.Entries.{below_all, by_order, is_sorted-put}
use lib.IntN.{ℤ}
use Rattle.mc_view.proofs.EntryFacts.{above, below, first, less, same, second}
use Rattle.mc_told.specs.KeptRows.{IsAt, IsGap, IsRising}

cases_le : (i j : ℕ) → i ≤ j → (i < j) ⊎ (i ≡ j)
cases_le i j le = grind (arith, nat_tests)

index_rises : (a b eid : ℤ) →
    int_cmp a b ≡ Less → ordering_index (int_cmp a eid) ≤ ordering_index (int_cmp b eid)
index_rises a b eid lt = grind (arith, nat_tests)

module _ {X : Type 0} where
  -- ---- the order by places

  at_tail : (e : ℤ × X) (es : List (ℤ × X)) (eid : ℤ) (i : ℕ) →
      IsAt (e ∷ es) eid (suc i) → IsAt es eid i
  at_tail e es eid i is = record { within = omega (arith, is.within); named = is.named }

  gap_tail : (e : ℤ × X) (es : List (ℤ × X)) (eid : ℤ) (i : ℕ) →
      IsGap (e ∷ es) eid (suc i) → IsGap es eid i
  gap_tail e es eid i gap = record {
    within = omega (arith, gap.within);
    lower = λ j d lt. gap.lower (suc j) d (omega (arith, lt));
    higher = λ j d le lt. gap.higher (suc j) d (omega (arith, le)) (omega (arith, lt));
  }

  below_at : (eid : ℤ) (es : List (ℤ × X)) → T (below_all int_cmp eid es) →
      (i : ℕ) (d : ℤ × X) → i < length es → int_cmp eid (get_or es i d).0 ≡ Less
  below_at eid [] h i d lt = absurd (omega (arith, lt))
  below_at eid (e ∷ es) h zero d lt = less _ (first _ _ h)
  below_at eid (e ∷ es) h (suc i) d lt = below_at eid es (second _ _ h) i d (omega (arith, lt))

  rising_at : (es : List (ℤ × X)) → IsRising es → (i j : ℕ) (d : ℤ × X) →
      i < j → j < length es → int_cmp (get_or es i d).0 (get_or es j d).0 ≡ Less
  rising_at [] r i j d lt within = absurd (omega (arith, within))
  rising_at (e ∷ es) r i zero d lt within = absurd (omega (arith, lt))
  rising_at (e ∷ es) r zero (suc j) d lt within =
      below_at e.0 es (first _ _ r) j d (omega (arith, within))
  rising_at (e ∷ es) r (suc i) (suc j) d lt within =
      rising_at es (second _ _ r) i j d (omega (arith, lt)) (omega (arith, within))

  -- one that stands later has a higher number than the first
  later : (e : ℤ × X) (es : List (ℤ × X)) (eid : ℤ) (i : ℕ) →
      IsRising (e ∷ es) → IsAt (e ∷ es) eid (suc i) → int_cmp eid e.0 ≡ Greater
  later e es eid i r is = above e.0 eid (subst (λ (k : ℤ). int_cmp e.0 k ≡ Less) (is.named e)
      (rising_at (e ∷ es) r 0 (suc i) e (omega arith) is.within))

  -- ---- a search

  searchable : (es : List (ℤ × X)) (eid : ℤ) →
      IsRising es → IsNonDecreasingBy (λ e. ordering_index (int_cmp e.0 eid)) es
  searchable es eid r i j d le within = step (cases_le i j le)
    where
      step : (i < j) ⊎ (i ≡ j) → ordering_index (int_cmp (get_or es i d).0 eid) ≤
          ordering_index (int_cmp (get_or es j d).0 eid)
      step (inl lt) =
          index_rises (get_or es i d).0 (get_or es j d).0 eid (rising_at es r i j d lt within)
      step (inr e) = grind (arith, nat_tests)

  pub found : (es : List (ℤ × X)) (eid : ℤ) (r : Result ℕ ℕ) →
      IsSearchInRange r (length es) → IsBinarySearchResult (λ e. int_cmp e.0 eid) es r →
      IfOk r (IsAt es eid)
  found es eid (Ok i) within is = record {
    within = within;
    named = λ d. int_cmp-IsAntisymmetric _ eid (is d);
  }
  found es eid (Err i) within is = tt

  pub absent : (es : List (ℤ × X)) (eid : ℤ) (r : Result ℕ ℕ) → IsRising es →
      IsSearchInRange r (length es) → IsBinarySearchResult (λ e. int_cmp e.0 eid) es r →
      IfErr r (IsGap es eid)
  absent es eid (Ok i) rising within is = tt
  absent es eid (Err i) rising within is =
      let point = is (searchable es eid rising) in record {
        within = within;
        lower = λ j d lt. point.0 j d (omega arith) lt;
        higher = λ j d le lt. point.1 j d le lt;
      }

  -- ---- a row found

  find_at : (es : List (ℤ × X)) (eid : ℤ) (i : ℕ) (d : ℤ × X) → IsRising es → IsAt es eid i →
      find int_cmp eid es ≡ Some (get_or es i d).1
  find_at [] eid i d r is = absurd (omega (arith, is.within))
  find_at (e ∷ es) eid zero d r is =
      ap (λ (r : Ordering). cond (is_eq r) (Some e.1) (find int_cmp eid es))
      (same e.0 eid (is.named e))
  find_at (e ∷ es) eid (suc i) d r is =
      ap (λ (r : Ordering). cond (is_eq r) (Some e.1) (find int_cmp eid es)) (later e es eid i r is)
      ∙ find_at es eid i d (second _ _ r) (at_tail e es eid i is)

  find_gap : (es : List (ℤ × X)) (eid : ℤ) (i : ℕ) → IsGap es eid i → find int_cmp eid es ≡ None
  find_gap [] eid i gap = refl
  find_gap (e ∷ es) eid zero gap =
      ap (λ (r : Ordering). cond (is_eq r) (Some e.1) (find int_cmp eid es))
      (below e.0 eid (gap.higher 0 e (omega arith) (omega arith)))
      ∙ find_gap es eid 0 (record {
        within = omega arith;
        lower = λ j d lt. absurd (omega (arith, lt));
        higher = λ j d le lt. gap.higher (suc j) d (omega arith) (omega (arith, lt));
      })
  find_gap (e ∷ es) eid (suc i) gap =
      ap (λ (r : Ordering). cond (is_eq r) (Some e.1) (find int_cmp eid es))
      (above e.0 eid (gap.lower 0 e (omega arith)))
      ∙ find_gap es eid i (gap_tail e es eid i gap)

  pub got_at : (es : List (ℤ × X)) (eid : ℤ) (i : ℕ) (was : ℤ × X) → IsRising es → IsAt es eid i →
      was ≡ get_or es i was → Some was.1 ≡ get (from_sorted {R = int_cmp} es) eid
  got_at es eid i was r is read = ap (λ (e : ℤ × X). Some e.1) read
      ∙ sym (get-from_sorted int_cmp es eid r ∙ find_at es eid i was r is)

  pub got_gap : (es : List (ℤ × X)) (eid : ℤ) (i : ℕ) → IsRising es → IsGap es eid i →
      None ≡ get (from_sorted {R = int_cmp} es) eid
  got_gap es eid i r gap = sym (get-from_sorted int_cmp es eid r ∙ find_gap es eid i gap)

  -- ---- a row put

  put_gap : (es : List (ℤ × X)) (i : ℕ) (eid : ℤ) (v : X) → IsGap es eid i →
      put int_cmp eid v es ≡ insert es i (eid, v)
  put_gap [] zero eid v gap = refl
  put_gap [] (suc i) eid v gap = absurd (omega (arith, gap.within))
  put_gap (e ∷ es) zero eid v gap =
      ap (λ (r : Ordering). by_order r ((eid, v) ∷ e ∷ es) ((e.0, v) ∷ es)
      (e ∷ put int_cmp eid v es)) (below e.0 eid (gap.higher 0 e (omega arith) (omega arith)))
  put_gap (e ∷ es) (suc i) eid v gap =
      ap (λ (r : Ordering). by_order r ((eid, v) ∷ e ∷ es) ((e.0, v) ∷ es)
      (e ∷ put int_cmp eid v es)) (above e.0 eid (gap.lower 0 e (omega arith)))
      ∙ ap (λ (ps : List (ℤ × X)). e ∷ ps) (put_gap es i eid v (gap_tail e es eid i gap))

  put_at : (es : List (ℤ × X)) (i : ℕ) (eid : ℤ) (v : X) → IsRising es → IsAt es eid i →
      put int_cmp eid v es ≡ set es i (eid, v)
  put_at [] i eid v r is = absurd (omega (arith, is.within))
  put_at (e ∷ es) zero eid v r is =
      ap (λ (r : Ordering). by_order r ((eid, v) ∷ e ∷ es) ((e.0, v) ∷ es)
      (e ∷ put int_cmp eid v es)) (same e.0 eid (is.named e))
      ∙ ap (λ (k : ℤ). (k, v) ∷ es) (is.named e)
  put_at (e ∷ es) (suc i) eid v r is =
      ap (λ (r : Ordering). by_order r ((eid, v) ∷ e ∷ es) ((e.0, v) ∷ es)
      (e ∷ put int_cmp eid v es)) (later e es eid i r is)
      ∙ ap (λ (ps : List (ℤ × X)). e ∷ ps)
      (put_at es i eid v (second _ _ r) (at_tail e es eid i is))

  put_rises : (es fs : List (ℤ × X)) (eid : ℤ) (v : X) →
      IsRising es → put int_cmp eid v es ≡ fs → IsRising fs
  put_rises es fs eid v r is = subst (λ (ps : List (ℤ × X)). T (is_sorted int_cmp ps)) is
      (is_sorted-put int_cmp int_cmp_total eid v es r)

  put_is : (es fs : List (ℤ × X)) (eid : ℤ) (v : X) → IsRising es → put int_cmp eid v es ≡ fs →
      from_sorted {R = int_cmp} fs ≡ map.insert (from_sorted es) eid v
  put_is es fs eid v r is =
      same_entries_map (from_sorted fs) (map.insert (from_sorted es) eid v)
      (entries-from_sorted int_cmp fs (put_rises es fs eid v r is) ∙ sym is
      ∙ sym (entries-insert int_cmp_total (from_sorted es) eid v
      ∙ ap (put int_cmp eid v) (entries-from_sorted int_cmp es r)))

  -- the rows after a row was put, and their map
  pub record HasPut (es fs : List (ℤ × X)) (eid : ℤ) (v : X) : Type 0 where
    pub rises : IsRising fs
    pub is : from_sorted {R = int_cmp} fs ≡ map.insert (from_sorted es) eid v

  pub put_in_gap : (es : List (ℤ × X)) (i : ℕ) (eid : ℤ) (v : X) →
      IsRising es → IsGap es eid i → HasPut es (insert es i (eid, v)) eid v
  put_in_gap es i eid v r gap = record {
    rises = put_rises es _ eid v r (put_gap es i eid v gap);
    is = put_is es _ eid v r (put_gap es i eid v gap);
  }

  pub put_over : (es : List (ℤ × X)) (i : ℕ) (eid : ℤ) (v : X) →
      IsRising es → IsAt es eid i → HasPut es (set es i (eid, v)) eid v
  put_over es i eid v r is = record {
    rises = put_rises es _ eid v r (put_at es i eid v r is);
    is = put_is es _ eid v r (put_at es i eid v r is);
  }

  pub none_kept : from_sorted {R = int_cmp} [] ≡ map.empty {X = X}
  none_kept = same_map int_cmp_total int_cmp-IsAntisymmetric (from_sorted []) map.empty (λ (q : ℤ).
      get-from_sorted int_cmp [] q tt ∙ sym (get-empty int_cmp q))
