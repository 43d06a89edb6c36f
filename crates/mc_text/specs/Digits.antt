-- Numbers as digits. Rules of this project.
use Rattle.std.specs.Prelude.{ℕ, ◌+◌, ◌-◌, ◌*◌, ◌&&◌, nat_lt, nat_le, List, [], ◌∷◌, length, Option}
use Rattle.std.specs.Prelude.{Some, None, if◌then◌else◌}
use Rattle.std.specs.Char.{is_ascii_digit}

-- the number that decimal digits write behind those of n, or none where a byte is no digit
abbrev pub digits_after : ℕ → List ℕ → Option ℕ
digits_after n [] = Some n
digits_after n (b ∷ bytes) =
    if is_ascii_digit b then digits_after (10 * n + (b - 48)) bytes else None

-- the number that 1 to `wide` decimal digits write
unfoldable pub digits_number : ℕ → List ℕ → Option ℕ
digits_number wide digits =
    if nat_lt 0 (length digits) && nat_le (length digits) wide then digits_after 0 digits else None

-- a number that is in a range
abbrev pub within : ℕ → ℕ → Option ℕ → Option ℕ
within low high None = None
within low high (Some n) = if nat_le low n && nat_le n high then Some n else None
