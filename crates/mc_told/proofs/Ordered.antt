-- Entries in the order of their keys, and finite maps made of them.
use Rattle.std.proofs.Common.{◌≡◌, Bool, true, false, cond, ◌&&◌, T, List, [], ◌∷◌, map, Some, None}
use Rattle.std.proofs.Common.{refl, sym, subst, ap, ◌∙◌, arith}
use Rattle.std.proofs.lemmas.Bool.Decides.{nat_tests}
use Rattle.std.specs.List.{AllByRecursion, filter}
use Rattle.std.specs.List.Sorted.{IsStrictlySortedBy}
use Rattle.std.specs.declared.cmp.Ordering.{Ordering}
use Rattle.std.specs.declared.cmp.Ordering.TheVariants.{Less}
use Rattle.std.specs.Ordering.{is_lt, is_eq, eq_by_cmp}
use Rattle.std.specs.Cmp.{IsTotalOrder}
use Rattle.std.specs.FinMap.{IsAntisymmetric, find, is_sorted, entries, entries_sorted}
use Rattle.std.specs.FinMap.{from_entries, get-entries, get-from_entries}
use Rattle.std.specs.FinMap.Entries.{below_all, find_tied, same_entries}
use Rattle.std.proofs.lemmas.Map.Entries.{option_filter}
use Rattle.mc_bytes.proofs.Trees.{equal}

pub both : (a b : Bool) → T a → T b → T (a && b)
both true b p q = q
both false b p q = p

pub first : (a b : Bool) → T (a && b) → T a
first true b h = tt
first false b h = absurd h

pub second : (a b : Bool) → T (a && b) → T b
second true b h = h
second false b h = absurd h

less : (r : Ordering) → T (is_lt r) → r ≡ Less
less r h = grind (arith, nat_tests)

module _ {K X : Type 0} (R : K → K → Ordering) where
  below_from : (k : K) (es : List (K × X)) → AllByRecursion (λ y. R k y ≡ Less) (map (λ e. e.0) es)
      → T (below_all R k es)
  below_from k [] all = tt
  below_from k (e ∷ es) all = both _ _ (subst (λ r. T (is_lt r)) (sym all.0) tt) (below_from k es
      all.1)

  -- keys that strictly rise
  pub sorted_from : (es : List (K × X)) → IsStrictlySortedBy R (map (λ e. e.0) es) →
      T (is_sorted R es)
  unfolding IsStrictlySortedBy
  sorted_from [] h = tt
  sorted_from (e ∷ es) h = both _ _ (below_from e.0 es h.0) (sorted_from es h.1)

  below_filter : (k : K) (test : K × X → Bool) (es : List (K × X)) → T (below_all R k es) →
      T (below_all R k (filter test es))
  below_filter k test [] h = tt
  below_filter k test (e ∷ es) h =
      let rest = below_filter k test es (second _ _ h) in
      elim (test e) as (λ b. T (below_all R k (cond b (e ∷ filter test es) (filter test es)))) [
        | true ↦ both _ _ (first _ _ h) rest
        | false ↦ rest
      ]

  -- a filter keeps the order
  pub sorted_filter : (test : K × X → Bool) (es : List (K × X)) → T (is_sorted R es) →
      T (is_sorted R (filter test es))
  sorted_filter test [] h = tt
  sorted_filter test (e ∷ es) h =
      let rest = sorted_filter test es (second _ _ h) in
      elim (test e) as (λ b. T (is_sorted R (cond b (e ∷ filter test es) (filter test es)))) [
        | true
            ↦ both _ _ (below_filter e.0 test es (first _ _ h)) rest
        | false ↦ rest
      ]

  pub find_below : (q : K) (es : List (K × X)) → T (below_all R q es) → find R q es ≡ None
  find_below q [] h = refl
  find_below q (e ∷ es) h = ap (λ r. cond (is_eq r) (Some e.1) (find R q es)) (less _ (first _ _ h))
      ∙ find_below q es (second _ _ h)

  -- what is found among the entries that pass a test
  pub find_filter : IsTotalOrder R → IsAntisymmetric R → (test : K × X →
      Bool) (q : K) (es : List (K × X)) → T (is_sorted R es) →
      find R q (filter test es) ≡ option_filter (λ v. test (q, v)) (find R q es)
  find_filter o exact test q [] h = refl
  find_filter o exact test q (e ∷ es) h =
      let rest = find_filter o exact test q es (second _ _ h) in
      elim (eq_by_cmp R q e.0) as (λ t. eq_by_cmp R q e.0 ≡ t →
      find R q (cond (test e) (e ∷ filter test es) (filter test es)) ≡ option_filter (λ v. test
      (q, v)) (cond t (Some e.1) (find R q es))) [
        | true ↦ λ t.
            let none : find R q es ≡ None = sym (find_tied R o q e.0 (equal _ t) es)
            ∙ find_below e.0 es (first _ _ h) in
            let here : test (q, e.1) ≡ test e = ap (λ k. test (k, e.1)) (exact q e.0 (equal _ t)) in
            elim (test e) as (λ b. test e ≡ b →
            find R q (cond b (e ∷ filter test es) (filter test es)) ≡ cond (test (q, e.1)) (Some
            e.1) None) [
              | true ↦ λ p. rw (t, here, p) refl
              | false ↦ λ p. rw (here, p, rest, none) refl
            ] refl
        | false ↦ λ t. elim (test e) as (λ b. find R q (cond b (e ∷ filter test es) (filter test
            es)) ≡ find R q (filter test es)) [ true ↦ rw t refl | false ↦ refl ] ∙ rest
      ] refl

  -- the entries of the map of entries in order are those
  pub entries_made : IsTotalOrder R → IsAntisymmetric R → (es : List (K × X)) → T (is_sorted R es) →
      entries (from_entries {R = R} es) ≡ es
  entries_made o exact es h = same_entries R o exact (entries (from_entries es)) es (entries_sorted
      (from_entries es)) h (λ q. sym (get-entries (from_entries es) q) ∙ get-from_entries o es q)
