-- What a search among rows of rising keys finds, and what an edit of the rows makes of the finite
-- map that they stand for.
use Rattle.std.proofs.Common.{Result, Ok, Err, IfOk, IfErr, ◌≡◌, ℕ, zero, suc, ◌<◌, ◌≤◌, Bool, true}
use Rattle.std.proofs.Common.{false, cond, not, ◌&&◌, T, List, [], ◌∷◌, length, get_or, set}
use Rattle.std.proofs.Common.{Some, None, inl, inr, refl, sym, subst, ap, ◌∙◌, arith, ◌⊎◌}
use Rattle.std.proofs.Common.{map as listed, slice_get}
use Rattle.std.proofs.lemmas.Bool.Decides.{nat_tests}
use Rattle.std.specs.List.{insert, remove}
use Rattle.std.specs.List.Sorted.{IsSearchInRange, IsBinarySearchResult, IsNonDecreasingBy}
use Rattle.std.specs.declared.cmp.Ordering.{Ordering}
use Rattle.std.specs.declared.cmp.Ordering.TheVariants.{Less, Equal, Greater}
use Rattle.std.specs.Ordering.{is_lt, is_eq, eq_by_cmp, ordering_index, ordering_reverse}
use Rattle.std.specs.Cmp.{IsTotalOrder, tied_itself}
use Rattle.std.specs.Option.{option_map}
use Rattle.std.specs.FinMap as map
use Rattle.std.specs.FinMap.{IsAntisymmetric, find, put, is_sorted, get, entries-from_sorted}
use Rattle.std.specs.FinMap.{from_sorted, get-from_sorted, entries-insert, same_entries_map}
use Rattle.std.specs.FinMap.{same_map, get-empty, get-remove}
use Rattle.std.specs.FinMap.Entries.{below_all, by_order, where_key, is_sorted-put}
use Rattle.std.specs.FinMap.Entries.{is_sorted-where_key, find-where_key}
use Rattle.mc_model.specs.Replica.{altered, altered_from}
use Rattle.mc_replica.specs.KeptRows.{IsAt, IsGap, IsRising}

pub first : (a b : Bool) → T (a && b) → T a
first true b h = tt
first false b h = absurd h

pub second : (a b : Bool) → T (a && b) → T b
second true b h = h
second false b h = absurd h

less : (r : Ordering) → T (is_lt r) → r ≡ Less
less r h = grind (arith, nat_tests)

at_tail : {K X : Type 0} (e : K × X) (es : List (K × X)) (key : K) (i : ℕ) →
    IsAt (e ∷ es) key (suc i) → IsAt es key i
at_tail e es key i is = record { within = omega (arith, is.within); named = is.named }

gap_tail : {K X : Type 0} (R : K → K → Ordering) (e : K × X) (es : List (K × X)) (key : K) (i : ℕ) →
    IsGap R (e ∷ es) key (suc i) → IsGap R es key i
gap_tail R e es key i gap = record {
  within = omega (arith, gap.within);
  lower = λ j d lt. gap.lower (suc j) d (omega (arith, lt));
  higher = λ j d le lt. gap.higher (suc j) d (omega (arith, le)) (omega (arith, lt));
}

turned : {A : Type 0} (r s : Ordering) (x y : A) →
    is_eq r ≡ is_eq s → cond (not (is_eq r)) x y ≡ cond (is_eq s) y x
turned r s x y e = grind (arith, nat_tests)

reversed : (r s : Ordering) → r ≡ ordering_reverse s → is_eq r ≡ is_eq s
reversed r s e = grind (arith, nat_tests)

cases_le : (i j : ℕ) → i ≤ j → (i < j) ⊎ (i ≡ j)
cases_le i j le = grind (arith, nat_tests)

module _ {K : Type 0} (R : K → K → Ordering) (o : IsTotalOrder R) where
  above : (x y : K) → R x y ≡ Less → R y x ≡ Greater
  above x y e = o.antisymm y x ∙ ap ordering_reverse e

  below : (x y : K) → R x y ≡ Greater → R y x ≡ Less
  below x y e = o.antisymm y x ∙ ap ordering_reverse e

  same : (x y : K) → x ≡ y → R y x ≡ Equal
  same x y e = ap (R y) e ∙ tied_itself o y

  rises : (a b key : K) (r s : Ordering) → R a b ≡ Less → R a key ≡ r → R b key ≡ s →
      ordering_index r ≤ ordering_index s
  rises a b key Less s lt e f = grind (arith, nat_tests)
  rises a b key Equal s lt e f =
      let higher : R b key ≡ Greater =
      above key b (o.congr key a b (o.antisymm key a ∙ ap ordering_reverse e) ∙ lt) in
      grind (arith, nat_tests)
  rises a b key Greater s lt e f =
      let higher : R b key ≡ Greater = above key b (o.trans key a b (below a key e) lt) in
      grind (arith, nat_tests)

module _ {K X : Type 0} (R : K → K → Ordering) (o : IsTotalOrder R) (exact : IsAntisymmetric R)
  where
    -- ---- the order by places

    below_at : (key : K) (es : List (K × X)) → T (below_all R key es) →
        (i : ℕ) (d : K × X) → i < length es → R key (get_or es i d).0 ≡ Less
    below_at key [] h i d lt = absurd (omega (arith, lt))
    below_at key (e ∷ es) h zero d lt = less _ (first _ _ h)
    below_at key (e ∷ es) h (suc i) d lt = below_at key es (second _ _ h) i d (omega (arith, lt))

    rising_at : (es : List (K × X)) → IsRising R es → (i j : ℕ) (d : K × X) →
        i < j → j < length es → R (get_or es i d).0 (get_or es j d).0 ≡ Less
    rising_at [] r i j d lt within = absurd (omega (arith, within))
    rising_at (e ∷ es) r i zero d lt within = absurd (omega (arith, lt))
    rising_at (e ∷ es) r zero (suc j) d lt within =
        below_at e.0 es (first _ _ r) j d (omega (arith, within))
    rising_at (e ∷ es) r (suc i) (suc j) d lt within =
        rising_at es (second _ _ r) i j d (omega (arith, lt)) (omega (arith, within))

    searchable : (es : List (K × X)) (key : K) →
        IsRising R es → IsNonDecreasingBy (λ e. ordering_index (R e.0 key)) es
    searchable es key r i j d le within =
        step (cases_le i j le)
      where
        step : (i < j) ⊎ (i ≡ j) → ordering_index (R (get_or es i d).0 key) ≤
            ordering_index (R (get_or es j d).0 key)
        step (inl lt) =
            rises R o (get_or es i d).0 (get_or es j d).0 key _ _ (rising_at es r i j d lt within)
            refl refl
        step (inr e) = grind (arith, nat_tests)

    -- one that stands later has a higher key than the first
    later : (e : K × X) (es : List (K × X)) (key : K) (i : ℕ) →
        IsRising R (e ∷ es) → IsAt (e ∷ es) key (suc i) → R key e.0 ≡ Greater
    later e es key i r is =
        above R o e.0 key (subst (λ (k : K). R e.0 k ≡ Less) (is.named e)
        (rising_at (e ∷ es) r 0 (suc i) e (omega arith) is.within))

    -- ---- a row put

    pub put_gap : (es : List (K × X)) (i : ℕ) (key : K) (v : X) → IsGap R es key i →
        put R key v es ≡ insert es i (key, v)
    put_gap [] zero key v gap = refl
    put_gap [] (suc i) key v gap = absurd (omega (arith, gap.within))
    put_gap (e ∷ es) zero key v gap =
        ap (λ (r : Ordering). by_order r ((key, v) ∷ e ∷ es) ((e.0, v) ∷ es) (e ∷ put R key v es))
        (below R o e.0 key (gap.higher 0 e (omega arith) (omega arith)))
    put_gap (e ∷ es) (suc i) key v gap =
        ap (λ (r : Ordering). by_order r ((key, v) ∷ e ∷ es) ((e.0, v) ∷ es) (e ∷ put R key v es))
        (above R o e.0 key (gap.lower 0 e (omega arith)))
        ∙ ap (λ (ps : List (K × X)). e ∷ ps) (put_gap es i key v (gap_tail R e es key i gap))

    pub put_at : (es : List (K × X)) (i : ℕ) (key : K) (v : X) → IsRising R es → IsAt es key i →
        put R key v es ≡ set es i (key, v)
    put_at [] i key v r is = absurd (omega (arith, is.within))
    put_at (e ∷ es) zero key v r is =
        ap (λ (r : Ordering). by_order r ((key, v) ∷ e ∷ es) ((e.0, v) ∷ es) (e ∷ put R key v es))
        (same R o e.0 key (is.named e))
        ∙ ap (λ (k : K). (k, v) ∷ es) (is.named e)
    put_at (e ∷ es) (suc i) key v r is =
        ap (λ (r : Ordering). by_order r ((key, v) ∷ e ∷ es) ((e.0, v) ∷ es) (e ∷ put R key v es))
        (later e es key i r is)
        ∙ ap (λ (ps : List (K × X)). e ∷ ps)
        (put_at es i key v (second _ _ r) (at_tail e es key i is))

    -- ---- a row found

    find_at : (es : List (K × X)) (key : K) (i : ℕ) (d : K × X) → IsRising R es → IsAt es key i →
        find R key es ≡ Some (get_or es i d).1
    find_at [] key i d r is = absurd (omega (arith, is.within))
    find_at (e ∷ es) key zero d r is =
        ap (λ (r : Ordering). cond (is_eq r) (Some e.1) (find R key es))
        (same R o e.0 key (is.named e))
    find_at (e ∷ es) key (suc i) d r is =
        ap (λ (r : Ordering). cond (is_eq r) (Some e.1) (find R key es)) (later e es key i r is)
        ∙ find_at es key i d (second _ _ r) (at_tail e es key i is)

    find_gap : (es : List (K × X)) (key : K) (i : ℕ) → IsGap R es key i → find R key es ≡ None
    find_gap [] key i gap = refl
    find_gap (e ∷ es) key zero gap =
        ap (λ (r : Ordering). cond (is_eq r) (Some e.1) (find R key es))
        (below R o e.0 key (gap.higher 0 e (omega arith) (omega arith)))
        ∙ find_gap es key 0 (record {
          within = omega arith;
          lower = λ j d lt. absurd (omega (arith, lt));
          higher = λ j d le lt. gap.higher (suc j) d (omega arith) (omega (arith, lt));
        })
    find_gap (e ∷ es) key (suc i) gap =
        ap (λ (r : Ordering). cond (is_eq r) (Some e.1) (find R key es))
        (above R o e.0 key (gap.lower 0 e (omega arith)))
        ∙ find_gap es key i (gap_tail R e es key i gap)

    -- ---- a row taken out

    all_other : (key : K) (es : List (K × X)) → T (below_all R key es) →
        where_key R (λ k. not (eq_by_cmp R key k)) es ≡ es
    all_other key [] h = refl
    all_other key (e ∷ es) h =
        ap (λ (r : Ordering). cond (not (is_eq r))
        (e ∷ where_key R (λ k. not (eq_by_cmp R key k)) es)
        (where_key R (λ k. not (eq_by_cmp R key k)) es)) (less _ (first _ _ h))
        ∙ ap (λ (ps : List (K × X)). e ∷ ps) (all_other key es (second _ _ h))

    where_at : (es : List (K × X)) (key : K) (i : ℕ) → IsRising R es →
        IsAt es key i → where_key R (λ k. not (eq_by_cmp R key k)) es ≡ remove es i
    where_at [] key i r is = absurd (omega (arith, is.within))
    where_at (e ∷ es) key zero r is =
        ap (λ (r : Ordering). cond (not (is_eq r))
        (e ∷ where_key R (λ k. not (eq_by_cmp R key k)) es)
        (where_key R (λ k. not (eq_by_cmp R key k)) es)) (same R o e.0 key (is.named e))
        ∙ all_other key es (subst (λ (k : K). T (below_all R k es)) (is.named e) (first _ _ r))
    where_at (e ∷ es) key (suc i) r is =
        ap (λ (r : Ordering). cond (not (is_eq r))
        (e ∷ where_key R (λ k. not (eq_by_cmp R key k)) es)
        (where_key R (λ k. not (eq_by_cmp R key k)) es)) (later e es key i r is)
        ∙ ap (λ (ps : List (K × X)). e ∷ ps)
        (where_at es key i (second _ _ r) (at_tail e es key i is))

    -- ---- the map

    pub got_at : (es : List (K × X)) (key : K) (i : ℕ) (d : K × X) → IsRising R es →
        IsAt es key i → get (from_sorted {R = R} es) key ≡ Some (get_or es i d).1
    got_at es key i d r is = get-from_sorted R es key r ∙ find_at es key i d r is

    pub got_gap : (es : List (K × X)) (key : K) (i : ℕ) →
        IsRising R es → IsGap R es key i → get (from_sorted {R = R} es) key ≡ None
    got_gap es key i r gap = get-from_sorted R es key r ∙ find_gap es key i gap

    put_rises : (es fs : List (K × X)) (key : K) (v : X) →
        IsRising R es → put R key v es ≡ fs → IsRising R fs
    put_rises es fs key v r is =
        subst (λ (ps : List (K × X)). T (is_sorted R ps)) is (is_sorted-put R o key v es r)

    put_is : (es fs : List (K × X)) (key : K) (v : X) → IsRising R es → put R key v es ≡ fs →
        from_sorted {R = R} fs ≡ map.insert (from_sorted es) key v
    put_is es fs key v r is =
        same_entries_map (from_sorted fs) (map.insert (from_sorted es) key v)
        (entries-from_sorted R fs (put_rises es fs key v r is) ∙ sym is
        ∙ sym (entries-insert o (from_sorted es) key v
        ∙ ap (put R key v) (entries-from_sorted R es r)))

    pub rises_insert : (es : List (K × X)) (i : ℕ) (key : K) (v : X) →
        IsRising R es → IsGap R es key i → IsRising R (insert es i (key, v))
    rises_insert es i key v r gap = put_rises es _ key v r (put_gap es i key v gap)

    pub map_insert : (es : List (K × X)) (i : ℕ) (key : K) (v : X) → IsRising R es →
        IsGap R es key i →
        from_sorted {R = R} (insert es i (key, v)) ≡ map.insert (from_sorted es) key v
    map_insert es i key v r gap = put_is es _ key v r (put_gap es i key v gap)

    pub rises_set : (es : List (K × X)) (i : ℕ) (key : K) (v : X) →
        IsRising R es → IsAt es key i → IsRising R (set es i (key, v))
    rises_set es i key v r is = put_rises es _ key v r (put_at es i key v r is)

    pub map_set : (es : List (K × X)) (i : ℕ) (key : K) (v : X) → IsRising R es → IsAt es key i →
        from_sorted {R = R} (set es i (key, v)) ≡ map.insert (from_sorted es) key v
    map_set es i key v r is = put_is es _ key v r (put_at es i key v r is)

    pub rises_remove : (es : List (K × X)) (key : K) (i : ℕ) →
        IsRising R es → IsAt es key i → IsRising R (remove es i)
    rises_remove es key i r is =
        subst (λ (ps : List (K × X)). T (is_sorted R ps)) (where_at es key i r is)
        (is_sorted-where_key R (λ k. not (eq_by_cmp R key k)) es r)

    pub map_remove : (es : List (K × X)) (key : K) (i : ℕ) → IsRising R es → IsAt es key i →
        from_sorted {R = R} (remove es i) ≡ map.remove (from_sorted es) key
    map_remove es key i r is =
        same_map o exact (from_sorted (remove es i)) (map.remove (from_sorted es) key)
        (λ (q : K). get-from_sorted R (remove es i) q (rises_remove es key i r is)
        ∙ ap (find R q) (sym (where_at es key i r is))
        ∙ find-where_key R (λ k. not (eq_by_cmp R key k)) q
        (λ x t. ap (λ (k : K). not (eq_by_cmp R key k)) (sym (exact q x t))) es
        ∙ turned (R key q) (R q key) (find R q es) None
        (reversed (R key q) (R q key) (o.antisymm key q))
        ∙ ap (cond (eq_by_cmp R q key) None) (sym (get-from_sorted R es q r))
        ∙ sym (get-remove o (from_sorted es) key q))

    -- a key that is not there is taken out
    pub map_none : (es : List (K × X)) (key : K) (i : ℕ) → IsRising R es → IsGap R es key i →
        from_sorted {R = R} es ≡ map.remove (from_sorted es) key
    map_none es key i r gap =
        same_map o exact (from_sorted es) (map.remove (from_sorted es) key)
        (λ (q : K). step q (R q key) refl ∙ sym (get-remove o (from_sorted es) key q))
      where
        step : (q : K) (r : Ordering) → R q key ≡ r → get (from_sorted {R = R} es) q ≡
            cond (is_eq (R q key)) None (get (from_sorted {R = R} es) q)
        step q Less e =
            ap (λ (r : Ordering). cond (is_eq r) None (get (from_sorted {R = R} es) q)) (sym e)
        step q Equal e =
            ap (get (from_sorted {R = R} es)) (exact q key e) ∙ got_gap es key i r gap
            ∙ ap (λ (r : Ordering). cond (is_eq r) None (get (from_sorted {R = R} es) q)) (sym e)
        step q Greater e =
            ap (λ (r : Ordering). cond (is_eq r) None (get (from_sorted {R = R} es) q)) (sym e)

    pub map_empty : from_sorted {R = R} [] ≡ map.empty {X = X}
    map_empty =
        same_map o exact (from_sorted []) map.empty (λ (q : K).
        get-from_sorted R [] q tt ∙ sym (get-empty R q))

    -- ---- a search

    pub found : (es : List (K × X)) (key : K) (r : Result ℕ ℕ) →
        IsSearchInRange r (length es) → IsBinarySearchResult (λ e. R e.0 key) es r →
        IfOk r (IsAt es key)
    found es key (Ok i) within is = record {
      within = within;
      named = λ d. exact _ key (is d);
    }
    found es key (Err i) within is = tt

    pub absent : (es : List (K × X)) (key : K) (r : Result ℕ ℕ) → IsRising R es →
        IsSearchInRange r (length es) → IsBinarySearchResult (λ e. R e.0 key) es r →
        IfErr r (IsGap R es key)
    absent es key (Ok i) rising within is = tt
    absent es key (Err i) rising within is =
        let point = is (searchable es key rising) in record {
          within = within;
          lower = λ j d lt. point.0 j d (omega arith) lt;
          higher = λ j d le lt. point.1 j d le lt;
        }

    -- ---- one row written over

    -- under its own key
    pub rises_over : (es : List (K × X)) (key : K) (i : ℕ) (was : K × X) (v : X) → IsRising R es →
        IsAt es key i → was ≡ get_or es i was → IsRising R (set es i (was.0, v))
    rises_over es key i was v r is read =
        rises_set es i was.0 v r (subst (λ (k : K). IsAt es k i)
        (sym (ap (λ (e : K × X). e.0) read ∙ is.named was)) is)

    pub altered_at : (es : List (K × X)) (key : K) (i : ℕ) (was : K × X) (f : X → X) →
        IsRising R es → IsAt es key i → was ≡ get_or es i was →
        from_sorted {R = R} (set es i (was.0, f was.1)) ≡ altered (from_sorted es) key f
    altered_at es key i was f r is read =
        map_set es i was.0 (f was.1) r (subst (λ (k : K). IsAt es k i) (sym named) is)
        ∙ ap (λ (k : K). map.insert (from_sorted es) k (f was.1)) named
        ∙ ap (altered_from (from_sorted es) key f)
        (ap (λ (e : K × X). Some e.1) read ∙ sym (got_at es key i was r is))
      where
        named : was.0 ≡ key
        named = ap (λ (e : K × X). e.0) read ∙ is.named was

    pub altered_gap : (es : List (K × X)) (key : K) (i : ℕ) (f : X → X) → IsRising R es →
        IsGap R es key i → from_sorted {R = R} es ≡ altered (from_sorted es) key f
    altered_gap es key i f r gap =
        ap (altered_from (from_sorted es) key f) (sym (got_gap es key i r gap))

    pub found_at : (es : List (K × X)) (key : K) (i : ℕ) (was : K × X) → IsRising R es →
        IsAt es key i → was ≡ get_or es i was →
        Some was ≡ option_map (λ (v : X). (key, v)) (get (from_sorted {R = R} es) key)
    found_at es key i was r is read =
        ap (λ (k : K). Some (k, was.1)) (ap (λ (e : K × X). e.0) read ∙ is.named was)
        ∙ ap (option_map (λ (v : X). (key, v)))
        (ap (λ (e : K × X). Some e.1) read ∙ sym (got_at es key i was r is))

    pub map_over : (es : List (K × X)) (key : K) (i : ℕ) (was : K × X) (v : X) → IsRising R es →
        IsAt es key i → was ≡ get_or es i was →
        from_sorted {R = R} (set es i (was.0, v)) ≡ map.insert (from_sorted es) key v
    map_over es key i was v r is read =
        map_set es i was.0 v r (subst (λ (k : K). IsAt es k i) (sym named) is)
        ∙ ap (λ (k : K). map.insert (from_sorted es) k v) named
      where
        named : was.0 ≡ key
        named = ap (λ (e : K × X). e.0) read ∙ is.named was

    pub got_over : (es : List (K × X)) (key : K) (i : ℕ) (was : K × X) → IsRising R es →
        IsAt es key i → was ≡ get_or es i was → Some was.1 ≡ get (from_sorted {R = R} es) key
    got_over es key i was r is read =
        ap (λ (e : K × X). Some e.1) read ∙ sym (got_at es key i was r is)

-- ---- what was lent

pub lent_alike : {N A B : Type 0} (n : N) (F G : A → B) → ((x : A) → F x ≡ G x) →
    ◌≡◌ {A = (N × (A → B)) ⊎ B} (inl (n, F)) (inl (n, G))
lent_alike n F G same = λ i. inl (n, λ x. same x i)

-- ---- the key at a place

keys_at : {K X : Type 0} (rows : List (K × X)) (i : ℕ) (d : K × X) → i < length rows →
    Some (get_or rows i d).0 ≡ slice_get (listed (λ (p : K × X). p.0) rows) i
keys_at [] i d lt = absurd (omega (arith, lt))
keys_at (e ∷ es) zero d lt = refl
keys_at (e ∷ es) (suc i) d lt = keys_at es i d (omega (arith, lt))

keys_past : {K X : Type 0} (rows : List (K × X)) (i : ℕ) → length rows ≤ i →
    None ≡ slice_get (listed (λ (p : K × X). p.0) rows) i
keys_past [] i le = refl
keys_past (e ∷ es) zero le = absurd (omega (arith, le))
keys_past (e ∷ es) (suc i) le = keys_past es i (omega (arith, le))

pub key_at : {K X : Type 0} (R : K → K → Ordering) (rows : List (K × X)) (i : ℕ) (was : K × X) →
    IsRising R rows → i < length rows → was ≡ get_or rows i was →
    Some was.0 ≡ slice_get (map.keys (from_sorted {R = R} rows)) i
key_at {K = K} {X = X} R rows i was r lt read =
    ap (λ (e : K × X). Some e.0) read ∙ keys_at rows i was lt
    ∙ ap (λ (es : List (K × X)). slice_get (listed (λ (p : K × X). p.0) es) i)
    (sym (entries-from_sorted R rows r))

pub no_key : {K X : Type 0} (R : K → K → Ordering) (rows : List (K × X)) (i : ℕ) →
    IsRising R rows → length rows ≤ i → None ≡ slice_get (map.keys (from_sorted {R = R} rows)) i
no_key {K = K} {X = X} R rows i r le =
    keys_past rows i le
    ∙ ap (λ (es : List (K × X)). slice_get (listed (λ (p : K × X). p.0) es) i)
    (sym (entries-from_sorted R rows r))
