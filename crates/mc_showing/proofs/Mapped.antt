-- What is made of the values of two maps by their numbers, where it is made of what each number
-- has.
use Rattle.std.proofs.Common.{◌≡◌, ℕ, List, [], ◌∷◌, T, map}
use Rattle.std.proofs.Common.{refl, sym, subst, ap, ◌∙◌, arith}
use Rattle.std.proofs.lemmas.Bool.Decides.{nat_tests}
use Rattle.std.specs.Prelude.{Option, Some, None, option_map}
use Rattle.std.specs.Cmp.{nat_cmp_total}
use Rattle.std.specs.Ordering.{nat_cmp}
use Rattle.std.specs.FinMap.{FinMap, entries, entries_sorted, find, get, get-entries, is_sorted}
use Rattle.std.specs.FinMap.{nat_cmp-IsAntisymmetric, values}
use Rattle.std.specs.FinMap.Entries.{same_entries}
use Rattle.mc_told.proofs.Rising.{rising, sorted_is}

-- what is made of each value, beside its number
abbrev pub keyed : {X Y : Type 0} (f : X → Y) (es : List (ℕ × X)) → List (ℕ × Y)
keyed f es = map (λ e. (e.0, f e.1)) es

sorted_keyed : {X Y : Type 0} (f : X → Y) (es : List (ℕ × X)) → T (is_sorted nat_cmp es) →
    T (is_sorted nat_cmp (keyed f es))
sorted_keyed f es = subst T (sorted_is nat_cmp es
    ∙ ap (rising nat_cmp) (keys_same f es)
    ∙ sym (sorted_is nat_cmp (keyed f es)))
  where
    keys_same : {X Y : Type 0} (f : X → Y) (es : List (ℕ × X)) →
        map (λ (e : ℕ × X). e.0) es ≡ map (λ (e : ℕ × Y). e.0) (keyed f es)
    keys_same f [] = refl
    keys_same f (e ∷ es) = ap (λ (ks : List ℕ). e.0 ∷ ks) (keys_same f es)

found_keyed : {X Y : Type 0} (f : X → Y) (q : ℕ) (es : List (ℕ × X)) →
    find nat_cmp q (keyed f es) ≡ option_map f (find nat_cmp q es)
found_keyed f q [] = refl
found_keyed f q (e ∷ es) = grind (arith, nat_tests, found_keyed f q es)

-- in the order of their numbers too it is the same, beside them
pub entries_alike : {X Y Z : Type 0} (f : X → Z) (h : Y → Z) (m : FinMap nat_cmp X)
    (n : FinMap nat_cmp Y) →
    ((q : ℕ) → option_map f (get m q) ≡ option_map h (get n q)) →
    keyed f (entries m) ≡ keyed h (entries n)
entries_alike {X} {Y} {Z} f h m n same =
    same_entries nat_cmp nat_cmp_total nat_cmp-IsAntisymmetric
    (keyed f (entries m)) (keyed h (entries n))
    (sorted_keyed f (entries m) (entries_sorted m))
    (sorted_keyed h (entries n) (entries_sorted n)) (λ q.
    found_keyed f q (entries m) ∙ ap (option_map f) (sym (get-entries m q)) ∙ same q
    ∙ ap (option_map h) (get-entries n q) ∙ sym (found_keyed h q (entries n)))

-- and alone
pub values_alike : {X Y Z : Type 0} (f : X → Z) (h : Y → Z) (m : FinMap nat_cmp X)
    (n : FinMap nat_cmp Y) →
    ((q : ℕ) → option_map f (get m q) ≡ option_map h (get n q)) →
    map f (values m) ≡ map h (values n)
values_alike {X} {Y} {Z} f h m n same =
    seconds f (entries m)
    ∙ ap (map (λ (e : ℕ × Z). e.1)) (entries_alike f h m n same)
    ∙ sym (seconds h (entries n))
  where
    seconds : {X : Type 0} (f : X → Z) (es : List (ℕ × X)) →
        map f (map (λ (e : ℕ × X). e.1) es) ≡ map (λ (e : ℕ × Z). e.1) (keyed f es)
    seconds f [] = refl
    seconds f (e ∷ es) = ap (λ (zs : List Z). f e.1 ∷ zs) (seconds f es)

-- so it is where it is itself what a number has in the other map
itself : {Y : Type 0} (o : Option Y) → option_map (λ (y : Y). y) o ≡ o
itself None = refl
itself (Some y) = refl

pub entries_mapped : {X Y : Type 0} (f : X → Y) (m : FinMap nat_cmp X) (n : FinMap nat_cmp Y) →
    ((q : ℕ) → option_map f (get m q) ≡ get n q) → keyed f (entries m) ≡ entries n
entries_mapped {X} {Y} f m n same =
    entries_alike f (λ (y : Y). y) m n (λ q. same q ∙ sym (itself (get n q)))
    ∙ all_itself (entries n)
  where
    all_itself : (es : List (ℕ × Y)) → keyed (λ (y : Y). y) es ≡ es
    all_itself [] = refl
    all_itself (e ∷ es) = ap (λ (fs : List (ℕ × Y)). e ∷ fs) (all_itself es)

pub values_mapped : {X Y : Type 0} (f : X → Y) (m : FinMap nat_cmp X) (n : FinMap nat_cmp Y) →
    ((q : ℕ) → option_map f (get m q) ≡ get n q) → map f (values m) ≡ values n
values_mapped {X} {Y} f m n same =
    values_alike f (λ (y : Y). y) m n (λ q. same q ∙ sym (itself (get n q)))
    ∙ all_itself (values n)
  where
    all_itself : (ys : List Y) → map (λ (y : Y). y) ys ≡ ys
    all_itself [] = refl
    all_itself (y ∷ ys) = ap (λ (zs : List Y). y ∷ zs) (all_itself ys)
