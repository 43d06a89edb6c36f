-- How what is left in a source and what a sink holds change over a call, where they tell it (a rule
-- of this project).
use Rattle.std.specs.Prelude.{◌≡◌, ℕ, Option, None, Some, List, [], ◌++◌}

-- what was left to read is the bytes and then what is left now, where both are told
abbrev pub Consumes : Option (List ℕ) → Option (List ℕ) → List ℕ → Type 0
Consumes (Some xs) (Some ys) bytes = xs ≡ bytes ++ ys
Consumes (Some xs) None bytes = ⊥
Consumes None (Some ys) bytes = ⊥
Consumes None None bytes = Unit {0}

-- nothing is left to read, where that is told
abbrev pub IsAtEnd : Option (List ℕ) → Type 0
IsAtEnd None = Unit {0}
IsAtEnd (Some xs) = xs ≡ []

-- what is held grew by the bytes; a sink may stop telling what it holds, and never begins again
abbrev pub Grows : Option (List ℕ) → Option (List ℕ) → List ℕ → Type 0
Grows old None bytes = Unit {0}
Grows None (Some ys) bytes = ⊥
Grows (Some xs) (Some ys) bytes = ys ≡ xs ++ bytes
