-- What is found in a finite map of which a value was put in, taken out or changed.
use Rattle.std.proofs.Common.{◌≡◌, ◌≢◌, ℕ, Bool, true, false, cond, List, [], ◌∷◌, map, Some, None}
use Rattle.std.proofs.Common.{refl, sym, ap, ◌∙◌, inl, inr}
use Rattle.std.proofs.Common.{arith}
use Rattle.std.proofs.lemmas.Bool.Decides.{nat_tests}
use Rattle.std.specs.Prelude.{◌⊎◌, option_map}
use Rattle.std.specs.List.{list_any}
use Rattle.std.specs.declared.cmp.Ordering.{Ordering}
use Rattle.std.specs.Ordering.{nat_cmp, is_eq, eq_by_cmp}
use Rattle.std.specs.Cmp.{IsTotalOrder, tied_itself, nat_cmp_total}
use Rattle.std.specs.Cmp.Lexicographic.{nat_list_cmp_total}
use Rattle.std.specs.FinMap.{FinMap, IsAntisymmetric, find, get, insert, remove, entries, values}
use Rattle.std.specs.FinMap.{get-entries, get-from_entries, get-insert, get-remove, same_map}
use Rattle.std.specs.FinMap.{nat_cmp-IsAntisymmetric, slice_cmp-IsAntisymmetric}
use Rattle.mc_model.specs.Maps.{map_keyed, modify, name_cmp}
use Rattle.mc_model.proofs.Maps.Sorted.{equal}

-- ---- in any order of keys

module _ {K : Type 0} {R : K → K → Ordering} (o : IsTotalOrder R) (same : IsAntisymmetric R) where
  tied : (k : K) → eq_by_cmp R k k ≡ true
  tied k = ap is_eq (tied_itself o k)

  apart : (q k : K) → q ≢ k → eq_by_cmp R q k ≡ false
  apart q k ne = grind (arith, nat_tests, same q k, equal)

module _ {K X : Type 0} {R : K → K → Ordering} (o : IsTotalOrder R) (same : IsAntisymmetric R) where
  put_here : (m : FinMap R X) (k : K) (x : X) → get (insert m k x) k ≡ Some x
  put_here m k x = get-insert o m k x k ∙ ap (λ b. cond b (Some x) (get m k)) (tied o same k)

  put_there : (m : FinMap R X) (k q : K) (x : X) → q ≢ k → get (insert m k x) q ≡ get m q
  put_there m k q x ne =
      get-insert o m k x q ∙ ap (λ b. cond b (Some x) (get m q)) (apart o same q k ne)

  gone_here : (m : FinMap R X) (k : K) → get (remove m k) k ≡ None
  gone_here m k = get-remove o m k k ∙ ap (λ b. cond b None (get m k)) (tied o same k)

  gone_there : (m : FinMap R X) (k q : K) → q ≢ k → get (remove m k) q ≡ get m q
  gone_there m k q ne = get-remove o m k q ∙ ap (λ b. cond b None (get m q)) (apart o same q k ne)

  changed_here : (m : FinMap R X) (k : K) (f : X → X) →
      get (modify k f m) k ≡ option_map f (get m k)
  changed_here m k f = grind (arith, nat_tests, put_here)

  changed_there : (m : FinMap R X) (k q : K) (f : X → X) → q ≢ k →
      get (modify k f m) q ≡ get m q
  changed_there m k q f ne = grind (arith, nat_tests, put_there)

-- each value changed by its key
module _ {K X Y : Type 0} {R : K → K → Ordering} (o : IsTotalOrder R) (same : IsAntisymmetric R)
  where
    found_keyed : (f : K → X → Y) (q : K) (es : List (K × X)) →
        find R q (map (λ (e : K × X). (e.0, f e.0 e.1)) es) ≡ option_map (f q) (find R q es)
    found_keyed f q [] = refl
    found_keyed f q (e ∷ es) = grind (arith, nat_tests, found_keyed f q es, same, equal)

    keyed : (f : K → X → Y) (m : FinMap R X) (q : K) →
        get (map_keyed f m) q ≡ option_map (f q) (get m q)
    unfolding map_keyed
    keyed f m q = get-from_entries o (map (λ (e : K × X). (e.0, f e.0 e.1)) (entries m)) q
        ∙ found_keyed f q (entries m) ∙ ap (option_map (f q)) (sym (get-entries m q))

-- ---- by numbers

pub tied_number : (k : ℕ) → eq_by_cmp nat_cmp k k ≡ true
tied_number k = tied nat_cmp_total nat_cmp-IsAntisymmetric k

pub untied_number : (j k : ℕ) → j ≢ k → eq_by_cmp nat_cmp j k ≡ false
untied_number j k ne = apart nat_cmp_total nat_cmp-IsAntisymmetric j k ne

-- what a test says of all values it says of one that is found
pub any_found : {X : Type 0} (test : X → Bool) (m : FinMap nat_cmp X) (q : ℕ) (x : X) →
    list_any test (values m) ≡ false → get m q ≡ Some x → test x ≡ false
any_found {X} test m q x none is = walk (entries m) none (sym (get-entries m q) ∙ is)
  where
    walk : (es : List (ℕ × X)) → list_any test (map (λ (e : ℕ × X). e.1) es) ≡ false →
        find nat_cmp q es ≡ Some x → test x ≡ false
    walk [] none is = absurd cc
    walk (e ∷ es) none is = grind (arith, nat_tests, walk es)

module _ {X : Type 0} where
  pub put_same : (m : FinMap nat_cmp X) (k : ℕ) (x : X) → get (insert m k x) k ≡ Some x
  put_same m k x = put_here nat_cmp_total nat_cmp-IsAntisymmetric m k x

  pub put_other : (m : FinMap nat_cmp X) (k j : ℕ) (x : X) → j ≢ k →
      get (insert m k x) j ≡ get m j
  put_other m k j x ne = put_there nat_cmp_total nat_cmp-IsAntisymmetric m k j x ne

  pub gone_same : (m : FinMap nat_cmp X) (k : ℕ) → get (remove m k) k ≡ None
  gone_same m k = gone_here nat_cmp_total nat_cmp-IsAntisymmetric m k

  pub gone_other : (m : FinMap nat_cmp X) (k j : ℕ) → j ≢ k → get (remove m k) j ≡ get m j
  gone_other m k j ne = gone_there nat_cmp_total nat_cmp-IsAntisymmetric m k j ne

  pub changed_same : (m : FinMap nat_cmp X) (k : ℕ) (f : X → X) →
      get (modify k f m) k ≡ option_map f (get m k)
  changed_same m k f = changed_here nat_cmp_total nat_cmp-IsAntisymmetric m k f

  pub changed_other : (m : FinMap nat_cmp X) (k j : ℕ) (f : X → X) → j ≢ k →
      get (modify k f m) j ≡ get m j
  changed_other m k j f ne = changed_there nat_cmp_total nat_cmp-IsAntisymmetric m k j f ne

  pub maps_alike : (m n : FinMap nat_cmp X) → ((q : ℕ) → get m q ≡ get n q) → m ≡ n
  maps_alike m n is = same_map nat_cmp_total nat_cmp-IsAntisymmetric m n is

pub get_keyed : {X Y : Type 0} (f : ℕ → X → Y) (m : FinMap nat_cmp X) (q : ℕ) →
    get (map_keyed f m) q ≡ option_map (f q) (get m q)
get_keyed f m q = keyed nat_cmp_total nat_cmp-IsAntisymmetric f m q

-- ---- by names

pub names_apart : IsAntisymmetric name_cmp
names_apart = slice_cmp-IsAntisymmetric nat_cmp-IsAntisymmetric

pub name_cases : (a b : List ℕ) → (a ≡ b) ⊎ (a ≢ b)
name_cases a b = elim (eq_by_cmp name_cmp a b) as
    (λ t. eq_by_cmp name_cmp a b ≡ t → (a ≡ b) ⊎ (a ≢ b)) [
      | true ↦ λ t. inl (names_apart a b (equal _ t))
      | false ↦ λ t. inr (λ same. differ (sym (ap (eq_by_cmp name_cmp a) (sym same)
          ∙ ap is_eq (tied_itself nat_list_cmp_total a)) ∙ t))
    ] refl
  where
    differ : true ≡ false → ⊥
    differ e = cc

module _ {X : Type 0} where
  pub name_put_same : (m : FinMap name_cmp X) (k : List ℕ) (x : X) →
      get (insert m k x) k ≡ Some x
  name_put_same m k x = put_here nat_list_cmp_total names_apart m k x

  pub name_put_other : (m : FinMap name_cmp X) (k q : List ℕ) (x : X) → q ≢ k →
      get (insert m k x) q ≡ get m q
  name_put_other m k q x ne = put_there nat_list_cmp_total names_apart m k q x ne

  pub name_changed_same : (m : FinMap name_cmp X) (k : List ℕ) (f : X → X) →
      get (modify k f m) k ≡ option_map f (get m k)
  name_changed_same m k f = changed_here nat_list_cmp_total names_apart m k f

  pub name_changed_other : (m : FinMap name_cmp X) (k q : List ℕ) (f : X → X) → q ≢ k →
      get (modify k f m) q ≡ get m q
  name_changed_other m k q f ne = changed_there nat_list_cmp_total names_apart m k q f ne
