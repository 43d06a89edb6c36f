-- Numbers with a fraction, as movement packets have them, mapped to whole numbers and back.
-- `mc_fields` says by inequalities which whole number a pattern stands for; here it is worked out.
use Rattle.std.specs.Prelude.{ℕ, zero, suc, unsigned_abs, ◌+◌, ◌-◌, ◌*◌, ◌^◌, ◌==◌, ◌||◌, Bool}
use Rattle.std.specs.Prelude.{false, true, nat_le, Option, Some, None, if◌then◌else◌}
use Rattle.std.specs.Int.{int_div_euclid, int_rem_euclid}
use lib.IntN.{ℤ, pos, negsuc}
use Rattle.mc_fields.specs.Pattern.{is_negative, exponent, significand, power, with_sign, held}

-- the number of a binary64 pattern, in 1/32 and rounded down; none where the pattern stands for no
-- number
unfoldable pub fixed_of : ℕ → Option ℤ
fixed_of p =
    if exponent 52 11 p == 2047 then None
    else Some (held (int_div_euclid
    (with_sign (is_negative 52 11 p) (32 * (significand 52 11 p * 2 ^ power 52 11 p)))
    (pos (2 ^ 1075))))

-- the degrees of a binary32 pattern, in 1/256 turns, rounded down and within one turn; none where
-- the pattern stands for no number, or for one of size 2^31 or more
unfoldable pub turn_of : ℕ → Option ℕ
turn_of p =
    if exponent 23 8 p == 255
    || nat_le (2 ^ 31 * 2 ^ 150) (significand 23 8 p * 2 ^ power 23 8 p)
    then None
    else Some (unsigned_abs (int_rem_euclid (int_div_euclid
    (with_sign (is_negative 23 8 p) (256 * (significand 23 8 p * 2 ^ power 23 8 p)))
    (pos (360 * 2 ^ 150))) (pos 256)))

-- the highest k, up to a most, for which 2^k is at most n
abbrev pub top_bit : ℕ → ℕ → ℕ
top_bit zero n = 0
top_bit (suc k) n = if nat_le (2 ^ suc k) n then suc k else top_bit k n

-- the pattern of n / 32, of a format with so many bits of fraction and so large a bias of the
-- exponent
abbrev pub pattern_with : ℕ → ℕ → ℕ → ℕ
pattern_with fraction bias n =
    if n == 0 then 0
    else (bias - 6 + top_bit 32 n) * 2 ^ fraction + n * 2 ^ (fraction - top_bit 32 n)

abbrev pub is_below_0 : ℤ → Bool
is_below_0 (pos n) = false
is_below_0 (negsuc n) = true

-- the binary64 pattern of n / 32
unfoldable pub pattern_of : ℤ → ℕ
pattern_of n = pattern_with 52 1023 (unsigned_abs n) + (if is_below_0 n then 2 ^ 63 else 0)

-- the binary32 pattern of a * 45 / 32 degrees, which are a 256th turns
unfoldable pub degrees_of : ℕ → ℕ
degrees_of a = pattern_with 23 127 (a * 45)
