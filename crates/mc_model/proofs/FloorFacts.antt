-- Numbers with a fraction as `mc_fields` reads them are those that are worked out: there is one
-- floor.
use Rattle.std.proofs.Common.{◌≡◌, ℕ, ◌*◌, ◌^◌, ◌<◌, arith}
use Rattle.std.specs.Prelude.{◌==◌, ◌||◌, ◌↔◌, nat_le, Bool, true, false, Option}
use Rattle.std.specs.Prelude.{IsNone, IfSome}
use Rattle.std.specs.Int.{int_div_euclid}
use Rattle.std.proofs.lemmas.Bool.Decides.{nat_tests}
use lib.IntN.{ℤ, pos}
use Rattle.mc_fields.specs.Pattern.{exponent, significand, power, with_sign}
use Rattle.mc_fields.specs.Pattern.{IsFloor, Fixes, IsEndless, Turns, IsVast}
use Rattle.mc_model.specs.Numbers.{fixed_of, turn_of}

-- a floor is the quotient
pub floor_is : (negative : Bool) (size b : ℕ) (n : ℤ) → 0 < b →
    IsFloor n (with_sign negative size) b → n ≡ int_div_euclid (with_sign negative size) (pos b)
floor_is negative size b n some f = grind (arith, nat_tests)

-- a binary64 pattern
pub fixed_is : (p : ℕ) (o : Option ℤ) → (IsNone o ↔ IsEndless p) → IfSome o (λ n. Fixes p n) →
    o ≡ fixed_of p
unfolding fixed_of
fixed_is p o e f = grind (arith, nat_tests, floor_is)

-- whether one of two tests passes
vast : (p : ℕ) → IsVast p → (exponent 23 8 p == 255 || nat_le (2 ^ 31 * 2 ^ 150)
    (significand 23 8 p * 2 ^ power 23 8 p)) ≡ true
vast p h1 = grind (arith, nat_tests)

not_vast : (p : ℕ) → (IsVast p → ⊥) →
    (exponent 23 8 p == 255 || nat_le (2 ^ 31 * 2 ^ 150)
    (significand 23 8 p * 2 ^ power 23 8 p)) ≡ false
not_vast p no_ = grind (arith, nat_tests)

-- a binary32 pattern of degrees
pub turn_is : (p : ℕ) (o : Option ℕ) → (IsNone o ↔ IsVast p) → IfSome o (λ a. Turns p a) →
    o ≡ turn_of p
unfolding turn_of
turn_is p o e f = grind (arith, nat_tests, floor_is)
