-- Patterns of binary64 and binary32 (IEEE 754): from the top a bit for the sign, so many bits of
-- exponent and so many of fraction. What a pattern stands for is said by whole numbers alone:
-- powers of two are multiplied out.
use Rattle.std.specs.Prelude.{◌≡◌, ℕ, ◌+◌, ◌*◌, ◌/◌, ◌%◌, ◌^◌, ◌<◌, ◌≤◌, ◌⊎◌, max, Bool, true}
use Rattle.std.specs.Prelude.{false, nat_le, ◌==◌, if◌then◌else◌}
use Rattle.std.specs.Int.{int_max, int_min, int_rem_euclid}
use lib.IntN.{ℤ, pos, negsuc, neg_ℤ, ◌+ℤ◌, ◌*ℤ◌}
use lib.Signed.{◌≤ℤ◌, ◌<ℤ◌}

-- ---- the parts of a pattern whose fraction has f bits and whose exponent has e

abbrev pub is_negative : ℕ → ℕ → ℕ → Bool
is_negative f e p = nat_le (2 ^ (f + e)) p

abbrev pub exponent : ℕ → ℕ → ℕ → ℕ
exponent f e p = p / 2 ^ f % 2 ^ e

-- The number has the size significand * 2 ^ power / 2 ^ bias, with the bias 1075 at binary64 and
-- 150 at binary32. An exponent of 0 counts as 1, without the bit that stands before the fraction
-- elsewhere.
abbrev pub significand_of : ℕ → ℕ → ℕ → ℕ
significand_of f exponent fraction = if exponent == 0 then fraction else 2 ^ f + fraction

abbrev pub significand : ℕ → ℕ → ℕ → ℕ
significand f e p = significand_of f (exponent f e p) (p % 2 ^ f)

abbrev pub power : ℕ → ℕ → ℕ → ℕ
power f e p = max (exponent f e p) 1

-- a size with its sign
abbrev pub with_sign : Bool → ℕ → ℤ
with_sign false size = pos size
with_sign true size = neg_ℤ (pos size)

-- n is the greatest whole number that is at most top / bottom
pub record IsFloor (n top : ℤ) (bottom : ℕ) : Type 0 where
  pub least : (n *ℤ pos bottom) ≤ℤ top
  pub most : top <ℤ ((n *ℤ pos bottom) +ℤ pos bottom)

-- ---- a binary64 pattern as a whole number of 1/32

-- it stands for no number: for an infinity, or for what is no number at all
abbrev pub IsEndless : ℕ → Type 0
IsEndless p = exponent 52 11 p ≡ 2047

-- from -2 ^ 40 to 2 ^ 40
abbrev pub held : ℤ → ℤ
held n = int_max (negsuc 1099511627775) (int_min n (pos 1099511627776))

-- n is the floor of 32 times a number, held
pub record FixesParts (negative : Bool) (significand power : ℕ) (n : ℤ) : Type 0 where
  pub floor : ℤ
  pub floored : IsFloor floor (with_sign negative (32 * (significand * 2 ^ power))) (2 ^ 1075)
  pub held : n ≡ held floor

-- the pattern stands for a number, and n is the floor of 32 times that number, held
pub record Fixes (p : ℕ) (n : ℤ) : Type 0 where
  pub ends : exponent 52 11 p < 2047
  pub parts : FixesParts (is_negative 52 11 p) (significand 52 11 p) (power 52 11 p) n

-- the pattern of n / 32
pub record Represents (n : ℤ) (p : ℕ) : Type 0 where
  pub ends : exponent 52 11 p < 2047
  pub exact : with_sign (is_negative 52 11 p) (32 * (significand 52 11 p * 2 ^ power 52 11 p))
      ≡ (n *ℤ pos (2 ^ 1075))

-- ---- a binary32 pattern of degrees as a whole number of 1/256 turn

-- it stands for no number, or for one of size 2 ^ 31 or more
abbrev pub IsVast : ℕ → Type 0
IsVast p = (exponent 23 8 p ≡ 255) ⊎ (2 ^ 31 * 2 ^ 150 ≤ significand 23 8 p * 2 ^ power 23 8 p)

-- a is the floor of 256/360 of a number, modulo 256
pub record TurnsParts (negative : Bool) (significand power a : ℕ) : Type 0 where
  pub floor : ℤ
  pub floored : IsFloor floor (with_sign negative (256 * (significand * 2 ^ power))) (360 * 2 ^ 150)
  pub rest : pos a ≡ int_rem_euclid floor (pos 256)

-- the pattern stands for a number of a size below 2 ^ 31, and a is the floor of 256/360 of it,
-- modulo 256
pub record Turns (p a : ℕ) : Type 0 where
  pub ends : exponent 23 8 p < 255
  pub small : significand 23 8 p * 2 ^ power 23 8 p < 2 ^ 31 * 2 ^ 150
  pub parts : TurnsParts (is_negative 23 8 p) (significand 23 8 p) (power 23 8 p) a

-- the pattern of a * 45 / 32 degrees
pub record RepresentsTurn (a p : ℕ) : Type 0 where
  pub ends : exponent 23 8 p < 255
  pub exact : with_sign (is_negative 23 8 p) (32 * (significand 23 8 p * 2 ^ power 23 8 p))
      ≡ pos (a * 45 * 2 ^ 150)
