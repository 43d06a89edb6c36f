-- What holds of all of a list, of what lists are made of.
use Rattle.std.proofs.Common.{◌≡◌, ℕ, zero, suc, ◌+◌, ◌<◌, ◌≤◌, Bool, List, [], ◌∷◌, ◌++◌, take}
use Rattle.std.proofs.Common.{drop, map, length, Option, Some, arith}
use Rattle.std.proofs.lemmas.Bool.Decides.{nat_tests}
use Rattle.std.specs.List.{filter, filter_map, flat_map, range_with_len, AllByRecursion}

-- of two lists, one behind the other
pub all_joined : {A : Type 0} (P : A → Type 0) (xs ys : List A) → AllByRecursion P xs →
    AllByRecursion P ys
    → AllByRecursion P (xs ++ ys)
all_joined P [] ys a b = b
all_joined P (x ∷ xs) ys a b = (a.0, all_joined P xs ys a.1 b)

-- of those behind some first ones
pub all_dropped : {A : Type 0} (P : A → Type 0) (n : ℕ) (xs : List A) → AllByRecursion P xs →
    AllByRecursion P (drop n xs)
all_dropped P zero xs a = a
all_dropped P (suc n) [] a = tt
all_dropped P (suc n) (x ∷ xs) a = all_dropped P n xs a.1

-- of some first ones
pub all_taken : {A : Type 0} (P : A → Type 0) (n : ℕ) (xs : List A) → AllByRecursion P xs →
    AllByRecursion P (take n xs)
all_taken P zero xs a = tt
all_taken P (suc n) [] a = tt
all_taken P (suc n) (x ∷ xs) a = (a.0, all_taken P n xs a.1)

-- of what is made of each
pub all_mapped : {A B : Type 0} (P : A → Type 0) (Q : B → Type 0) (f : A → B) →
    ((x : A) → P x → Q (f x)) → (xs : List A)
    → AllByRecursion P xs → AllByRecursion Q (map f xs)
all_mapped P Q f each [] a = tt
all_mapped P Q f each (x ∷ xs) a = (each x a.0, all_mapped P Q f each xs a.1)

-- of those that pass a test
pub all_filtered : {A : Type 0} (P : A → Type 0) (test : A → Bool) (xs : List A) →
    AllByRecursion P xs
    → AllByRecursion P (filter test xs)
all_filtered P test [] a = tt
all_filtered {A} P test (x ∷ xs) a = grind (arith, nat_tests, all_filtered P test xs a.1)

-- of what is made of some
pub all_chosen : {A B : Type 0} (P : A → Type 0) (Q : B → Type 0) (f : A → Option B) →
    ((x : A) (y : B) → P x → f x ≡ Some y → Q y) → (xs : List A)
    → AllByRecursion P xs → AllByRecursion Q (filter_map f xs)
all_chosen P Q f each [] a = tt
all_chosen {B = B} P Q f each (x ∷ xs) a = grind (arith, nat_tests, all_chosen P Q f each xs a.1)

-- no more pass a test than there are
pub few_filtered : {A : Type 0} (test : A → Bool) (xs : List A) →
    length (filter test xs) ≤ length xs
few_filtered test [] = omega arith
few_filtered {A} test (x ∷ xs) = grind (arith, nat_tests, few_filtered test xs)

-- of what each is spread out to
pub all_flat : {A B : Type 0} (P : A → Type 0) (Q : B → Type 0) (f : A → List B) →
    ((x : A) → P x → AllByRecursion Q (f x))
    → (xs : List A) → AllByRecursion P xs → AllByRecursion Q (flat_map f xs)
all_flat P Q f each [] a = tt
all_flat P Q f each (x ∷ xs) a = all_joined Q (f x) (flat_map f xs) (each x a.0)
    (all_flat P Q f each xs a.1)

-- of numbers in a row
pub all_range : (P : ℕ → Type 0) (a n : ℕ) → ((i : ℕ) → i < a + n → P i) →
    AllByRecursion P (range_with_len a n)
all_range P a zero each = tt
all_range P a (suc n) each = grind (arith, nat_tests, all_range P (a + 1) n)
