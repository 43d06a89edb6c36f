-- The numbers of connections: that they are those that are listed is kept where one changes, comes
-- above all others, or goes.
use Rattle.std.proofs.Common.{◌≡◌, ℕ, ◌+◌, ◌<◌, ◌≤◌, Bool, true, false, cond, List, [], ◌∷◌, ◌++◌}
use Rattle.std.proofs.Common.{T, map, refl, sym, subst, ap, ◌∙◌, arith}
use Rattle.std.proofs.lemmas.Bool.Decides.{nat_tests}
use Rattle.std.specs.Prelude.{◌==◌, not, Option, Some, None, is_some, option_map}
use Rattle.std.specs.List.{AllByRecursion, filter}
use Rattle.std.specs.Cmp.{nat_cmp_total}
use Rattle.std.specs.Ordering.{eq_by_cmp, is_lt, nat_cmp}
use Rattle.std.specs.FinMap.{FinMap, empty, entries, entries-insert, len-empty, len-entries}
use Rattle.std.specs.FinMap.{entries_sorted, find, get, get-entries, get-insert, insert, is_sorted}
use Rattle.std.specs.FinMap.{keys, nat_cmp-IsAntisymmetric, put, remove}
use Rattle.std.specs.FinMap.Entries.{same_entries}
use Rattle.std.proofs.lemmas.List.{nil_from_length}
use Rattle.mc_told.proofs.Ordered.{first, second}
use Rattle.mc_told.proofs.Rising.{below_keys, rising, sorted_is}
use Rattle.mc_model.specs.Step.{is_new}
use Rattle.mc_laws.proofs.Apart.Swaps.{keys_removed}
use Rattle.mc_links.specs.Kept.{ConnectionValue}
use Rattle.mc_events.specs.Served.{AreNumbers, next_number}
use Rattle.mc_events.proofs.Loops.{AreOnce, is_of}

-- ---- keys

-- the keys alone, as entries
abbrev bare : {X : Type 0} → List (ℕ × X) → List (ℕ × ℕ)
bare {X} es = map (λ (e : ℕ × X). (e.0, 0)) es

bare_keys : {X : Type 0} (es : List (ℕ × X)) →
    map (λ (e : ℕ × X). e.0) es ≡ map (λ (e : ℕ × ℕ). e.0) (bare es)
bare_keys [] = refl
bare_keys (e ∷ es) = ap (λ (ks : List ℕ). e.0 ∷ ks) (bare_keys es)

bare_sorted : {X : Type 0} (es : List (ℕ × X)) → T (is_sorted nat_cmp es) →
    T (is_sorted nat_cmp (bare es))
bare_sorted es = subst T (sorted_is nat_cmp es ∙ ap (rising nat_cmp) (bare_keys es)
    ∙ sym (sorted_is nat_cmp (bare es)))

bare_found : {X : Type 0} (q : ℕ) (es : List (ℕ × X)) →
    find nat_cmp q (bare es) ≡ option_map {U = ℕ} (λ (x : X). 0) (find nat_cmp q es)
bare_found q [] = refl
bare_found q (e ∷ es) = grind (arith, nat_tests, bare_found q es)

-- the same where the same keys are there
pub same_keys : {X Y : Type 0} (m : FinMap nat_cmp X) (n : FinMap nat_cmp Y) →
    ((q : ℕ) → is_some (get m q) ≡ is_some (get n q)) → keys m ≡ keys n
same_keys {X} {Y} m n same =
    bare_keys (entries m)
    ∙ ap (map (λ (e : ℕ × ℕ). e.0))
    (same_entries nat_cmp nat_cmp_total nat_cmp-IsAntisymmetric (bare (entries m))
    (bare (entries n)) (bare_sorted (entries m) (entries_sorted m))
    (bare_sorted (entries n) (entries_sorted n)) (λ q.
    bare_found q (entries m)
    ∙ there (find nat_cmp q (entries m)) (find nat_cmp q (entries n))
    (ap is_some (sym (get-entries m q)) ∙ same q ∙ ap is_some (get-entries n q))
    ∙ sym (bare_found q (entries n))))
    ∙ sym (bare_keys (entries n))
  where
    there : (o : Option X) (p : Option Y) → is_some o ≡ is_some p →
        option_map {U = ℕ} (λ (x : X). 0) o ≡ option_map {U = ℕ} (λ (y : Y). 0) p
    there None None e = refl
    there None (Some y) e = absurd cc
    there (Some x) None e = absurd cc
    there (Some x) (Some y) e = refl

-- where a value changes
pub keys_kept : {X : Type 0} (m : FinMap nat_cmp X) (k : ℕ) (c d : X) → get m k ≡ Some c →
    keys (insert m k d) ≡ keys m
keys_kept {X} m k c d there = same_keys (insert m k d) m (λ q.
    ap is_some (get-insert nat_cmp_total m k d q) ∙ at (eq_by_cmp nat_cmp q k) q refl)
  where
    at : (b : Bool) (q : ℕ) → eq_by_cmp nat_cmp q k ≡ b →
        is_some (cond b (Some d) (get m q)) ≡ is_some (get m q)
    at false q e = refl
    at true q e =
        let is : q ≡ k = grind (arith, nat_tests, e) in
        ap is_some (sym (ap (get m) is ∙ there))

-- where one comes above all others
put_last : {X : Type 0} (k : ℕ) (x : X) (es : List (ℕ × X)) →
    AllByRecursion (λ (j : ℕ). j < k) (map (λ (e : ℕ × X). e.0) es) →
    put nat_cmp k x es ≡ es ++ (k, x) ∷ []
put_last k x [] all = refl
put_last k x (e ∷ es) all = grind (arith, nat_tests, put_last k x es all.1)

pub keys_more : {X : Type 0} (m : FinMap nat_cmp X) (k : ℕ) (x : X) →
    AllByRecursion (λ (j : ℕ). j < k) (keys m) → keys (insert m k x) ≡ keys m ++ k ∷ []
keys_more {X} m k x all =
    ap (map (λ (e : ℕ × X). e.0)) (entries-insert nat_cmp_total m k x
    ∙ put_last k x (entries m) all)
    ∙ mapped (entries m)
  where
    mapped : (es : List (ℕ × X)) → map (λ (e : ℕ × X). e.0) (es ++ (k, x) ∷ [])
        ≡ map (λ (e : ℕ × X). e.0) es ++ k ∷ []
    mapped [] = refl
    mapped (e ∷ es) = ap (λ (ks : List ℕ). e.0 ∷ ks) (mapped es)

-- ---- the invariant

-- of nobody
pub numbers_none : AreNumbers [] empty None
numbers_none = record {
  are = ap (map (λ (e : ℕ × ConnectionValue). e.0)) (sym (nil_from_length _
      (sym (len-entries (empty {X = ConnectionValue} {R = nat_cmp}))
      ∙ len-empty nat_cmp ConnectionValue)));
  below = tt;
}

-- where one changes
pub numbers_kept : {ids : List ℕ} {m : FinMap nat_cmp ConnectionValue} {last : Option ℕ}
    {c : ConnectionValue} (k : ℕ) (d : ConnectionValue) → get m k ≡ Some c →
    AreNumbers ids m last → AreNumbers ids (insert m k d) last
numbers_kept {m = m} {c = c} k d there is = record {
  are = is.are ∙ sym (keys_kept m k c d there);
  below = is.below;
}

below_more : (low high k : ℕ) (ids : List ℕ) → low ≤ high → k < high →
    AllByRecursion (λ (j : ℕ). j < low) ids → AllByRecursion (λ (j : ℕ). j < high) (ids ++ k ∷ [])
below_more low high k [] le lt all = (lt, tt)
below_more low high k (j ∷ ids) le lt all =
    (let less = all.0 in omega (arith, less, le), below_more low high k ids le lt all.1)

-- where one comes
pub numbers_more : (ids : List ℕ) (m : FinMap nat_cmp ConnectionValue) (last : Option ℕ) (k : ℕ)
    (d : ConnectionValue) → is_new k last ≡ true → AreNumbers ids m last →
    AreNumbers (ids ++ k ∷ []) (insert m k d) (Some k)
numbers_more ids m last k d new is =
    let above : next_number last ≤ k = least last new in
    record {
      are = ap (λ (ks : List ℕ). ks ++ k ∷ []) is.are
          ∙ sym (keys_more m k d (subst (AllByRecursion (λ (j : ℕ). j < k)) is.are
          (all_more above ids is.below)));
      below = below_more (next_number last) (k + 1) k ids (omega (arith, above)) (omega arith)
          is.below;
    }
  where
    least : (o : Option ℕ) → is_new k o ≡ true → next_number o ≤ k
    least None e = omega arith
    least (Some n) e = grind (arith, nat_tests, e)

    all_more : next_number last ≤ k → (ks : List ℕ) →
        AllByRecursion (λ (j : ℕ). j < next_number last) ks → AllByRecursion (λ (j : ℕ). j < k) ks
    all_more le [] all = tt
    all_more le (j ∷ ks) all = (let less = all.0 in omega (arith, less, le), all_more le ks all.1)

-- where one goes
pub numbers_less : (ids : List ℕ) (m : FinMap nat_cmp ConnectionValue) (last : Option ℕ) (k : ℕ) →
    AreNumbers ids m last →
    AreNumbers (filter (λ (j : ℕ). not (j == k)) ids) (remove m k) last
numbers_less ids m last k is = record {
  are = ap (filter (λ (j : ℕ). not (j == k))) is.are ∙ sym (keys_removed m k);
  below = kept ids is.below;
}
  where
    kept : (ks : List ℕ) → AllByRecursion (λ (j : ℕ). j < next_number last) ks →
        AllByRecursion (λ (j : ℕ). j < next_number last) (filter (λ (j : ℕ). not (j == k)) ks)
    kept [] all = tt
    kept (j ∷ ks) all = elim (not (j == k)) as (λ b. AllByRecursion
        (λ (i : ℕ). i < next_number last) (cond b (j ∷ filter (λ (i : ℕ). not (i == k)) ks)
        (filter (λ (i : ℕ). not (i == k)) ks))) [
          | true ↦ (all.0, kept ks all.1)
          | false ↦ kept ks all.1
        ]

-- ---- no number stands twice

below_none : (k : ℕ) (ks : List ℕ) → T (below_keys nat_cmp k ks) → is_of k ks ≡ false
below_none k [] below = refl
below_none k (j ∷ ks) below =
    let here : T (is_lt (nat_cmp k j)) =
    first (is_lt (nat_cmp k j)) (below_keys nat_cmp k ks) below in
    let later = below_none k ks (second (is_lt (nat_cmp k j)) (below_keys nat_cmp k ks) below) in
    grind (arith, nat_tests, here, later)

once_rising : (ks : List ℕ) → T (rising nat_cmp ks) → AreOnce ks
once_rising [] rise = tt
once_rising (k ∷ ks) rise =
    (below_none k ks (first _ _ rise), once_rising ks (second _ _ rise))

pub keys_once : {X : Type 0} (m : FinMap nat_cmp X) → AreOnce (keys m)
keys_once m = once_rising (keys m) (subst T (sorted_is nat_cmp (entries m)) (entries_sorted m))
