-- Maps by numbers of which each value is changed: what holds of each value, and how many there are.
use Rattle.std.proofs.Common.{◌≡◌, ℕ, Bool, true, false, List, [], ◌∷◌, map, length}
use Rattle.std.proofs.Common.{Option, Some, None, T, refl, sym, subst, ap, ◌∙◌, inl, inr, arith}
use Rattle.std.specs.Prelude.{◌==◌, is_some, option_map, if◌then◌else◌}
use Rattle.std.proofs.lemmas.Bool.{cases_eq, eqb-true}
use Rattle.std.proofs.lemmas.Bool.Decides.{nat_tests}
use Rattle.std.specs.Ordering.{nat_cmp}
use Rattle.std.specs.Cmp.{nat_cmp_total}
use Rattle.std.specs.FinMap.{FinMap, entries, entries_sorted, find, from_entries, get, insert}
use Rattle.std.specs.FinMap.{get-from_entries, is_sorted, len, len-empty, len-entries, len-insert}
use Rattle.std.specs.FinMap.{remove}
use Rattle.std.specs.FinMap.Entries.{below_all}
use Rattle.mc_model.specs.Maps.{map_keyed, modify}
use Rattle.mc_model.proofs.Maps.Lookups.{changed_other, changed_same, get_keyed, gone_other}
use Rattle.mc_model.proofs.Maps.Lookups.{gone_same, maps_alike, put_other, put_same, tied_number}
use Rattle.mc_model.proofs.Maps.Options.{none_some, some_is}
use Rattle.mc_model.proofs.Maps.Sorted.{find_again, second}

-- each value of the second map is the one of the first, changed by its number
abbrev pub AreChanged : {X : Type 0} → (ℕ → X → X) → FinMap nat_cmp X → FinMap nat_cmp X → Type 0
AreChanged f m n = (k : ℕ) → get n k ≡ option_map (f k) (get m k)

-- ---- one value alone

-- the value of one number is changed, and no other
abbrev pub only : {X : Type 0} → ℕ → (X → X) → ℕ → X → X
only k f j x = if j == k then f x else x

-- what holds of it changed, and of others as they are
pub only_holds : {X : Type 0} (P : X → Type 0) (k : ℕ) (f : X → X) (j : ℕ) (x : X) →
    (j ≡ k → P (f x)) → P x → P (only k f j x)
only_holds P k f j x here there = elim (j == k) as
    (λ (b : Bool). (j == k) ≡ b → P (if b then f x else x)) [
      | true ↦ λ t. here (eqb-true j k t)
      | false ↦ λ t. there
    ] refl

pub mapped_itself : {X : Type 0} (o : Option X) → option_map (λ (x : X). x) o ≡ o
mapped_itself None = refl
mapped_itself (Some x) = refl

pub only_changed : {X : Type 0} (k : ℕ) (f : X → X) (m : FinMap nat_cmp X) →
    AreChanged (only k f) m (modify k f m)
only_changed {X} k f m j =
    grind (arith, nat_tests, cases_eq j k, changed_same, changed_other, mapped_itself (get m j))

-- or it is changed twice
pub twice_changed : {X : Type 0} (k : ℕ) (f h : X → X) (m : FinMap nat_cmp X) →
    AreChanged (only k (λ x. f (h x))) m (modify k f (modify k h m))
twice_changed {X} k f h m j = only_changed k f (modify k h m) j
    ∙ ap (option_map (only k f j)) (only_changed k h m j) ∙ both (get m j)
  where
    both : (o : Option X) → option_map (only k f j) (option_map (only k h j) o)
        ≡ option_map (only k (λ x. f (h x)) j) o
    both o = grind (arith, nat_tests)

-- ---- what holds of each value

abbrev pub AllValues : {X : Type 0} → (ℕ → X → Type 0) → FinMap nat_cmp X → Type 0
AllValues {X} P m = (k : ℕ) (x : X) → get m k ≡ Some x → P k x

-- of each that is changed
pub all_changed : {X : Type 0} (P : ℕ → X → Type 0) (f : ℕ → X → X) (m n : FinMap nat_cmp X) →
    AreChanged f m n → AllValues (λ k x. P k (f k x)) m → AllValues P n
all_changed {X} P f m n are all k y is = step (get m k) (all k) (sym (are k) ∙ is)
  where
    step : (o : Option X) → ((x : X) → o ≡ Some x → P k (f k x)) → option_map (f k) o ≡ Some y →
        P k y
    step None each is = absurd cc
    step (Some x) each is = subst (P k) (some_is (f k x) y is) (each x refl)

module _ {X : Type 0} (P : ℕ → X → Type 0) (m : FinMap nat_cmp X) (all : AllValues P m)
    (k : ℕ) where
  -- where one is put in
  pub all_put : (x : X) → P k x → AllValues P (insert m k x)
  all_put x holds j y is = elim (cases_eq j k) [
    | inl same ↦ subst (λ (i : ℕ). P i y) (sym same) (subst (P k) (some_is x y
        (sym (put_same m k x) ∙ ap (get (insert m k x)) (sym same) ∙ is)) holds)
    | inr ne ↦ all j y (sym (put_other m k j x ne) ∙ is)
  ]

  -- and where one is taken out
  pub all_gone : AllValues P (remove m k)
  all_gone j x is = elim (cases_eq j k) [
    | inl same ↦ absurd (none_some (get (remove m k) k) x (gone_same m k)
        (ap (get (remove m k)) (sym same) ∙ is))
    | inr ne ↦ all j x (sym (gone_other m k j ne) ∙ is)
  ]

-- ---- how many there are

module _ {X : Type 0} (f : ℕ → X → X) where
  abbrev changed_entry : ℕ × X → ℕ × X
  changed_entry e = (e.0, f e.0 e.1)

  absent_still : (k : ℕ) (es : List (ℕ × X)) → find nat_cmp k es ≡ None →
      find nat_cmp k (map changed_entry es) ≡ None
  absent_still k [] none = refl
  absent_still k (e ∷ es) none = grind (arith, nat_tests, absent_still k es)

  many_entries : (es : List (ℕ × X)) → T (is_sorted nat_cmp es) →
      len (from_entries {R = nat_cmp} (map changed_entry es)) ≡ length es
  many_entries [] sorted = len-empty nat_cmp X
  many_entries (e ∷ es) sorted =
      let later : len (from_entries {R = nat_cmp} (map changed_entry es)) ≡ length es =
      many_entries es (second (below_all nat_cmp e.0 es) (is_sorted nat_cmp es) sorted) in
      let none : is_some (get (from_entries {R = nat_cmp} (map changed_entry es)) e.0) ≡ false =
      ap is_some (get-from_entries nat_cmp_total (map changed_entry es) e.0
      ∙ absent_still e.0 es (find_again nat_cmp_total e.0 e es sorted (tied_number e.0))) in
      let added = len-insert nat_cmp_total (from_entries (map changed_entry es)) e.0 (f e.0 e.1) in
      grind (arith, later, none, added)

  many_keyed : (m : FinMap nat_cmp X) → len (map_keyed f m) ≡ len m
  unfolding map_keyed
  many_keyed m = many_entries (entries m) (entries_sorted m) ∙ sym (len-entries m)

  -- as many as before
  pub many_changed : (m n : FinMap nat_cmp X) → AreChanged f m n → len n ≡ len m
  many_changed m n are =
      ap len (maps_alike n (map_keyed f m) (λ k. are k ∙ sym (get_keyed f m k))) ∙ many_keyed m
