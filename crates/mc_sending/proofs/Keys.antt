-- Tests that agree.
use Rattle.std.proofs.Common.{◌≡◌, Bool, true, List, [], ◌∷◌, refl, ap, arith}
use Rattle.std.proofs.lemmas.Bool.Decides.{nat_tests}
use Rattle.std.specs.List.{filter}

pub alike : (a b : Bool) → (a ≡ true → b ≡ true) → (b ≡ true → a ≡ true) → a ≡ b
alike a b f g = grind (arith, nat_tests)

-- tests that agree keep the same
pub same_filter : {A : Type 0} (f g : A → Bool) → ((x : A) → f x ≡ g x) → (xs : List A) →
    filter f xs ≡ filter g xs
same_filter f g same [] = grind (arith, nat_tests)
same_filter f g same (x ∷ xs) = grind (arith, nat_tests, same_filter f g same xs)

-- a test that all pass keeps all
pub all_kept : {A : Type 0} (xs : List A) → filter (λ (x : A). true) xs ≡ xs
all_kept [] = refl
all_kept {A} (x ∷ xs) = ap (λ (ys : List A). x ∷ ys) (all_kept xs)
