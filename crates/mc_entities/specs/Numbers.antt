-- Lists of which each element has a number, in rising number.
use Rattle.std.specs.Prelude.{◌≤ℤ◌, ◌<ℤ◌, not, Bool, List, [], ◌∷◌, map, Option, Some, None}
use Rattle.std.specs.Prelude.{if◌then◌else◌}
use Rattle.std.specs.List.{filter, list_any}
use Rattle.std.specs.Ordering.{eq_by_cmp, int_cmp, int_eq}
use lib.IntN.{ℤ}

-- the first of a number
abbrev pub numbered : {X : Type 0} → (X → ℤ) → ℤ → List X → Option X
numbered number n [] = None
numbered number n (x ∷ xs) = if int_eq (number x) n then Some x else numbered number n xs

-- those of a number changed, and all others as they are
abbrev pub changed : {X : Type 0} → (X → ℤ) → ℤ → (X → X) → List X → List X
changed number n f xs = map (λ x. if int_eq (number x) n then f x else x) xs

-- all but those of a number
abbrev pub without : {X : Type 0} → (X → ℤ) → ℤ → List X → List X
without number n xs = filter (λ x. not (int_eq (number x) n)) xs

-- a number is one of some
abbrev pub is_among : List ℤ → ℤ → Bool
is_among numbers n = list_any (eq_by_cmp int_cmp n) numbers

-- all but those of some numbers
abbrev pub without_all : {X : Type 0} → (X → ℤ) → List ℤ → List X → List X
without_all number gone xs = filter (λ x. not (is_among gone (number x))) xs

-- each number is above `low` and those before it, and at most `high`
abbrev pub Rise : {X : Type 0} → (X → ℤ) → ℤ → List X → ℤ → Type 0
Rise number low [] high = low ≤ℤ high
Rise number low (x ∷ xs) high = (low <ℤ number x) × Rise number (number x) xs high
