-- The patterns that the code makes stand for their numbers, and the vast ones are told by their
-- exponent.
use Rattle.std.specs.Prelude.{nat_le}
use Rattle.std.specs.Int.{w32, int_div_euclid, int_rem_euclid}
use Rattle.std.proofs.Common.{◌≡◌, ℕ, ◌+◌, ◌-◌, ◌*◌, ◌/◌, ◌%◌, ◌^◌, ◌<◌, ◌≤◌, max, Bool, true}
use Rattle.std.proofs.Common.{false, sym, ap, ◌∙◌, arith, inl, inr, refl, ne_eqb}
use Rattle.std.proofs.Math.Nat.{mul-le-mul, pow-le-pow_right}
use Rattle.std.proofs.lemmas.Bool.{cases_lt}
use Rattle.std.proofs.lemmas.Bool.Decides.{nat_tests}
use Rattle.std.proofs.lemmas.Int.{ints, clamps}
use Rattle.std.proofs.lemmas.Nat.{pow-add, pow_pos}
use lib.IntN.{ℤ, pos, negsuc, nat_abs, ◌*ℤ◌}
use lib.Signed.{shr_z, mag}
use mir.Val.{SFits}
use Rattle.mc_fields.specs.Pattern.{Fixes, held, Turns, TurnsParts, IsVast, Represents}
use Rattle.mc_fields.specs.Pattern.{RepresentsTurn, exponent, power, significand, significand_of}
use Rattle.mc_fields.specs.Pattern.{is_negative, with_sign}
use Rattle.mc_fields.specs.PatternLaws.{floor_exact, shift_floor, shift_then}
use Rattle.mc_fields.proofs.Floors.{with_sign-times}

-- the place of a number's highest bit
pub top_below : (size top k : ℕ) → 2 ^ top ≤ size → size < 2 ^ k → top < k
top_below size top k least most = grind (arith, nat_tests, cases_lt, pow-le-pow_right)

pub not_under : (a b : ℕ) → b < a → nat_le a b ≡ false
not_under a b lt = grind (arith, nat_tests)

-- the significand of a pattern whose exponent is not 0
pub significand_hidden : (f e fraction : ℕ) → 0 < e → significand_of f e fraction ≡ 2 ^ f + fraction
significand_hidden f e fraction some = rw (ne_eqb e 0 (omega arith)) refl

-- ---- binary64

abbrev Made : Bool → ℕ → ℕ → ℕ → ℕ → Type 0
Made negative size top sig p =
    (exponent 52 11 p ≡ 1018 + top) × (p % 2 ^ 52 ≡ sig - 2 ^ 52) × (is_negative 52 11 p ≡ negative)

stands_made : (negative : Bool) (size top sig p : ℕ) → Made negative size top sig p → 2 ^ 52 ≤ sig
    → top < 32 → sig ≡ size * 2 ^ (52 - top) → Represents (with_sign negative size) p
stands_made negative size top sig p made least few is =
    let hidden : significand 52 11 p ≡ sig =
    rw (made.0, made.1) (significand_hidden 52 (1018 + top) (sig - 2 ^ 52) (omega arith) ∙
    omega arith) in
    let powered : power 52 11 p ≡ 1018 + top = rw made.0 (omega arith) in
    let whole : (52 - top) + (1018 + top) ≡ 1070 = omega arith in
    let parts : 2 ^ (52 - top) * 2 ^ (1018 + top) ≡ 2 ^ 1070 =
    sym (pow-add 2 (52 - top) (1018 + top)) ∙ ap (λ (n : ℕ). 2 ^ n) whole in
    let times : 32 * (size * 2 ^ (52 - top) * 2 ^ (1018 + top)) ≡ size * 2 ^ 1075 =
    omega (arith, ap (λ (n : ℕ). size * n) parts) in
    record {
      ends = omega (arith, made.0);
      exact = rw (hidden, powered, made.2, is, times)
          (sym (with_sign-times negative size (2 ^ 1075)));
    }

pub stands_negative : (size top sig : ℕ) → 2 ^ 52 ≤ sig → sig < 2 * 2 ^ 52 → top < 32
    → sig ≡ size * 2 ^ (52 - top)
    → Represents (with_sign true size) (9223372036854775808 + (1018 + top) * 4503599627370496 +
    (sig - 4503599627370496))
stands_negative size top sig least most few is =
    grind (arith, nat_tests, stands_made true size top sig)

pub stands_positive : (size top sig : ℕ) → 2 ^ 52 ≤ sig → sig < 2 * 2 ^ 52 → top < 32
    → sig ≡ size * 2 ^ (52 - top)
    → Represents (with_sign false size) ((1018 + top) * 4503599627370496 + (sig - 4503599627370496))
stands_positive size top sig least most few is = grind (
  arith,
  nat_tests,
  stands_made false size top sig,
  not_under (2 ^ 63) ((1018 + top) * 4503599627370496 + (sig - 4503599627370496)),
)

-- the pattern of a number of 32 bits is read as the number again
pub fixes_again : (n : ℤ) (p : ℕ) → SFits w32 n → Represents n p → Fixes p n
fixes_again n p fits stands = record {
  ends = stands.ends;
  parts = record {
    floor = n;
    floored = floor_exact n _ (2 ^ 1075) (pow_pos 1075) stands.exact;
    held = held_few n fits.sfits;
  };
}
  where
    held_few : (z : ℤ) → mag z < 2 ^ 31 → z ≡ held z
    held_few z few = omega (arith, ints, clamps, few)

-- and as no other
pub fixes_only : (n m : ℤ) (p : ℕ) → SFits w32 n → Represents n p → Fixes p m → m ≡ n
fixes_only n m p fits stands fixes = grind (arith, nat_tests)

-- ---- binary32

pub stands_turn : (a top sig : ℕ) → 2 ^ 23 ≤ sig → sig < 2 * 2 ^ 23 → top < 14
    → sig ≡ a * 45 * 2 ^ (23 - top) → RepresentsTurn a ((122 + top) * 8388608 + (sig - 8388608))
stands_turn a top sig least most few is =
    let at_exponent : exponent 23 8 ((122 + top) * 8388608 + (sig - 8388608)) ≡ 122 + top =
    omega arith in
    let at_fraction : ((122 + top) * 8388608 + (sig - 8388608)) % 2 ^ 23 ≡ sig - 2 ^ 23 =
    omega arith in
    let at_sign = not_under (2 ^ 31) ((122 + top) * 8388608 + (sig - 8388608)) (omega arith) in
    let hidden : significand_of 23 (122 + top) (sig - 2 ^ 23) ≡ sig =
    significand_hidden 23 (122 + top) (sig - 2 ^ 23) (omega arith) ∙ omega arith in
    let powered : max (122 + top) 1 ≡ 122 + top = omega arith in
    let whole : (23 - top) + (122 + top) ≡ 145 = omega arith in
    let parts : 2 ^ (23 - top) * 2 ^ (122 + top) ≡ 2 ^ 145 = sym (pow-add 2 (23 - top) (122 + top))
    ∙ ap (λ (n : ℕ). 2 ^ n) whole in
    let times : 32 * (a * 45 * 2 ^ (23 - top) * 2 ^ (122 + top)) ≡ a * 45 * 2 ^ 150 =
    omega (arith, ap (λ (n : ℕ). a * 45 * n) parts) in
    record {
      ends = omega (arith, at_exponent);
      exact = rw (at_exponent, at_fraction, at_sign, hidden, powered, is, times) refl;
    }

-- eight times as much
scaled : (negative : Bool) (s k : ℕ) → with_sign negative (32 * s) ≡ pos k
    → with_sign negative (256 * s) ≡ pos (8 * k)
scaled false s k e = omega (arith, ints, e)
scaled true s k e = omega (arith, ints, e)

-- 256/360 of the degrees that the pattern of an angle stands for is the angle
turns_exact : (a p : ℕ) → RepresentsTurn a p
    → with_sign (is_negative 23 8 p) (256 * (significand 23 8 p * 2 ^ power 23 8 p)) ≡
    (pos a *ℤ pos (360 * 2 ^ 150))
turns_exact a p stands = grind (arith, nat_tests)

-- the size of a number that is not negative
size_is : (negative : Bool) (s k : ℕ) → with_sign negative s ≡ pos k → s ≡ k
size_is false s k e = omega (arith, ints, e)
size_is true s k e = omega (arith, ints, e)

-- the pattern of an angle is read as the angle again
pub turns_again : (a p : ℕ) → a < 256 → RepresentsTurn a p → Turns p a
turns_again a p fits stands =
    let size : 32 * (significand 23 8 p * 2 ^ power 23 8 p) ≡ a * 45 * 2 ^ 150 =
    size_is (is_negative 23 8 p) _ _ stands.exact in
    record {
      ends = stands.ends;
      small = omega (arith, size);
      parts = record {
        floor = pos a;
        floored = floor_exact (pos a) _ (360 * 2 ^ 150) (omega arith)
            (turns_exact a p stands);
        rest = omega (arith, ints);
      };
    }

-- and as no other
pub turns_only : (a b p : ℕ) → a < 256 → RepresentsTurn a p → Turns p b → b ≡ a
turns_only a b p fits stands turns = grind (arith, nat_tests)

rem_is : (z d : ℤ) → pos (nat_abs (int_rem_euclid z d)) ≡ int_rem_euclid z d
rem_is (pos a) d = refl
rem_is (negsuc a) d = refl

pub turned : (negative : Bool) (size k a : ℕ) → k ≤ 157
    → a ≡ nat_abs
    (int_rem_euclid (int_div_euclid (shr_z (with_sign negative (size * 4096)) (2 ^ (157 - k)))
    (pos 45)) (pos 256))
    → TurnsParts negative size k a
turned negative size k a low is =
    let whole : 157 ≡ k + (157 - k) = omega arith in
    let parts : 2 ^ 157 ≡ 2 ^ k * 2 ^ (157 - k) = ap (λ (n : ℕ). 2 ^ n) whole ∙
    pow-add 2 k (157 - k) in
    let top : 16 * (256 * (size * 2 ^ k)) ≡ size * 4096 * 2 ^ k = omega arith in
    let bottom : 16 * (360 * 2 ^ 150) ≡ 2 ^ k * (2 ^ (157 - k) * 45) = omega (arith, parts) in
    let some : 0 < 2 ^ (157 - k) = pow_pos (157 - k) in
    let joined = shift_then (with_sign negative (size * 4096)) (2 ^ (157 - k)) 45 in
    record {
      floor = shr_z (with_sign negative (size * 4096)) (2 ^ (157 - k) * 45);
      floored = shift_floor negative (size * 4096) (2 ^ (157 - k) * 45) (2 ^ k) 16
          (256 * (size * 2 ^ k)) (360 * 2 ^ 150) (omega (arith, some)) (pow_pos k) (omega arith) top
          bottom;
      rest = ap pos is ∙ rem_is _ (pos 256) ∙ ap (λ (z : ℤ). int_rem_euclid z (pos 256)) joined;
    }

pub vast_above : (p : ℕ) → 158 ≤ p / 2 ^ 23 % 2 ^ 8 → IsVast p
vast_above p high =
    let hidden = significand_hidden 23 (exponent 23 8 p) (p % 2 ^ 23) (omega arith) in
    let some : 0 < 2 = omega arith in
    let above : 158 ≤ power 23 8 p = omega arith in
    let wide : 2 ^ 158 ≤ 2 ^ power 23 8 p = pow-le-pow_right some above in
    let size : 2 ^ 23 ≤ significand 23 8 p = omega (arith, hidden) in
    inr (omega (arith, mul-le-mul size wide))

significand_below : (e fraction : ℕ) → fraction < 2 ^ 23 → significand_of 23 e fraction < 2 ^ 24
significand_below e fraction few = grind (arith, nat_tests)

-- a number with a small exponent is small
pub small_below : (p : ℕ) → p / 2 ^ 23 % 2 ^ 8 < 158
    → significand 23 8 p * 2 ^ power 23 8 p < 2 ^ 31 * 2 ^ 150
small_below p low =
    let some : 0 < 2 = omega arith in
    let under : power 23 8 p ≤ 157 = omega arith in
    let powered : 2 ^ power 23 8 p ≤ 2 ^ 157 = pow-le-pow_right some under in
    let size = significand_below (exponent 23 8 p) (p % 2 ^ 23) (omega arith) in
    let size_le : significand 23 8 p ≤ 2 ^ 24 - 1 = omega (arith, size) in
    omega (arith, mul-le-mul size_le powered)

pub vast_below : (p : ℕ) → p / 2 ^ 23 % 2 ^ 8 < 158 → IsVast p → ⊥
vast_below p low (inl full) = absurd (omega (arith, full))
vast_below p low (inr wide) = let small = small_below p low in absurd (omega (arith, small, wide))
