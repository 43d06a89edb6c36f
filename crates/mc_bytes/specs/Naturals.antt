-- Whole numbers that are not negative, among those with a sign.
use Rattle.std.specs.Prelude.{ℕ, Bool, true, false}
use lib.IntN.{ℤ, pos, negsuc}

abbrev pub is_natural : ℤ → Bool
is_natural (pos n) = true
is_natural (negsuc n) = false

-- its size, and 0 of a negative one
abbrev pub natural_of : ℤ → ℕ
natural_of (pos n) = n
natural_of (negsuc n) = 0
