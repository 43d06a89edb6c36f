-- A number of values of one field: what has a spelling, and what is written.
use Rattle.std.specs.Prelude.{ℕ, ◌+◌, List, [], ◌∷◌, ◌++◌}

-- each value has a spelling
abbrev pub AllFit : {A : Type 0} → (A → Type 0) → List A → Type 0
AllFit fits [] = Unit {0}
AllFit fits (x ∷ xs) = fits x × AllFit fits xs

-- the spellings of all values, joined
abbrev pub all_spelling : {A : Type 0} → (A → List ℕ) → List A → List ℕ
all_spelling spelling [] = []
all_spelling spelling (x ∷ xs) = spelling x ++ all_spelling spelling xs

-- the bytes with all values at their end
unfoldable pub all_append : {A : Type 0} → (A → List ℕ → List ℕ) → List A → List ℕ → List ℕ
all_append append [] out = out
all_append append (x ∷ xs) out = all_append append xs (append x out)

-- the bounds of all values, summed
abbrev pub all_most : {A : Type 0} → (A → ℕ) → List A → ℕ
all_most most [] = 0
all_most most (x ∷ xs) = most x + all_most most xs
