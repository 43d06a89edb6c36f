-- Lists of which those elements are left out that make no difference.
use Rattle.std.proofs.Common.{◌≡◌, ℕ, Bool, false, ◌&&◌, List, [], ◌∷◌}
use Rattle.std.proofs.Common.{refl, sym, ap, ◌∙◌, arith}
use Rattle.std.proofs.lemmas.Bool.Decides.{nat_tests}
use Rattle.std.proofs.lemmas.List.Kept.{IsStrictlySortedBy-filter}
use Rattle.std.proofs.lemmas.List.Sums.{sum_by-cons}
use Rattle.std.proofs.lemmas.Map.Lookups.{CmpEqualImpliesEq, btree_set_from_contains}
use Rattle.std.proofs.lemmas.Map.Views.{any-filter_same, tells_apart}
use Rattle.std.specs.Cmp.{IsTotalOrder}
use Rattle.std.specs.List.{filter, flat_map, fold, list_any, sum_by}
use Rattle.std.specs.List.Sorted.{IsStrictlySortedBy}
use Rattle.std.specs.declared.cmp.Ordering.{Ordering}
use Rattle.std.specs.Ordering.{eq_by_cmp}

-- ---- those that a test leaves out make nothing

module _ {A : Type 0} (test : A → Bool) where
  -- no element of a list
  pub flat_map_filtered : {B : Type 0} (f : A → List B) →
      ((x : A) → test x ≡ false → f x ≡ []) → (xs : List A) →
      flat_map f xs ≡ flat_map f (filter test xs)
  flat_map_filtered f none [] = refl
  flat_map_filtered f none (x ∷ xs) =
      grind (arith, nat_tests, flat_map_filtered f none xs, none x)

  -- nothing of a sum
  pub sum_by_filtered : (f : A → ℕ) → ((x : A) → test x ≡ false → f x ≡ 0) → (xs : List A) →
      sum_by f xs ≡ sum_by f (filter test xs)
  sum_by_filtered f none [] = refl
  sum_by_filtered f none (x ∷ xs) =
      grind (arith, nat_tests, sum_by_filtered f none xs, none x, sum_by-cons f)

  -- no change
  pub fold_filtered : {B : Type 0} (f : B → A → B) →
      ((b : B) (x : A) → test x ≡ false → f b x ≡ b) → (b : B) (xs : List A) →
      fold f b xs ≡ fold f b (filter test xs)
  fold_filtered f none b [] = refl
  fold_filtered f none b (x ∷ xs) =
      grind (arith, nat_tests, fold_filtered f none (f b x) xs, fold_filtered f none b xs, none b x)

-- ---- lists that rise

module _ {K : Type 0} {R : K → K → Ordering} (total : IsTotalOrder R) (exact : CmpEqualImpliesEq R)
  where
    -- an element is among those that pass a test where it passes and is among all
    any_filtered : (test : K → Bool) (q : K) (ks : List K) →
        list_any (eq_by_cmp R q) (filter test ks) ≡ (test q && list_any (eq_by_cmp R q) ks)
    any_filtered test q ks = any-filter_same (eq_by_cmp R q) test (test q)
        (λ k tied. ap test (sym (tells_apart exact q k tied))) ks

    -- lists that rise and have the same elements are the same
    same_rising : (xs ys : List K) → IsStrictlySortedBy R xs → IsStrictlySortedBy R ys →
        ((q : K) → list_any (eq_by_cmp R q) xs ≡ list_any (eq_by_cmp R q) ys) → xs ≡ ys
    same_rising xs ys up rises same = btree_set_from_contains total (record { keys = xs })
        (record { keys = ys }) up rises same exact

    -- where a list has all that `has` says, those of it that pass a test and are among some are
    -- those of the some that it has and that pass
    pub filtered_among : (has test : K → Bool) (all some : List K) → IsStrictlySortedBy R all →
        IsStrictlySortedBy R some → ((q : K) → list_any (eq_by_cmp R q) all ≡ has q) →
        filter (λ k. list_any (eq_by_cmp R k) some) (filter test all)
        ≡ filter (λ k. has k && test k) some
    filtered_among has test all some up rises holds =
        let among : K → Bool = λ k. list_any (eq_by_cmp R k) some in
        let both : K → Bool = λ k. has k && test k in
        same_rising (filter among (filter test all)) (filter both some)
        (IsStrictlySortedBy-filter R among (filter test all)
        (IsStrictlySortedBy-filter R test all up)) (IsStrictlySortedBy-filter R both some rises)
        (λ q. any_filtered among q (filter test all)
        ∙ ap (λ (b : Bool). among q && b) (any_filtered test q all)
        ∙ ap (λ (b : Bool). among q && (test q && b)) (holds q)
        ∙ turned (among q) (test q) (has q) ∙ sym (any_filtered both q some))
      where
        turned : (a b c : Bool) → (a && (b && c)) ≡ ((c && b) && a)
        turned a b c = grind (arith, nat_tests)
