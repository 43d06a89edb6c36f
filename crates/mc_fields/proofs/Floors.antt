-- What the code's shifts give, as the definitions of patterns have it.
use Rattle.std.specs.Int.{w64}
use Rattle.std.proofs.Common.{◌≡◌, ℕ, ◌+◌, ◌-◌, ◌*◌, ◌^◌, ◌<◌, ◌≤◌, min, Bool, true}
use Rattle.std.proofs.Common.{false, sym, ap, ◌∙◌, arith}
use Rattle.std.proofs.Math.Nat.{mul-le-mul_left, mul-le-mul_right, pow-le-pow_right}
use Rattle.std.proofs.lemmas.Bool.Decides.{nat_tests}
use Rattle.std.proofs.lemmas.Bool.{cases_lt}
use Rattle.std.proofs.lemmas.Int.{ints, clamps}
use Rattle.std.proofs.lemmas.Nat.{pow-add, pow_pos}
use lib.IntN.{ℤ, pos, ◌*ℤ◌}
use lib.Signed.{shr_z, mag_shr}
use mir.Val.{SFits}
use Rattle.mc_fields.specs.Pattern.{FixesParts, held, with_sign}
use Rattle.mc_fields.specs.PatternLaws.{floor_exact, shift_floor, shift_gone}

-- ---- shifts up

pub raised_low : (size top place : ℕ) → 2 ^ top ≤ size → top ≤ place →
    2 ^ place ≤ size * 2 ^ (place - top)
raised_low size top place least room = grind (arith, nat_tests, pow-add, mul-le-mul_right)

pub raised_high : (size top place : ℕ) → size < 2 * 2 ^ top → top ≤ place →
    size * 2 ^ (place - top) < 2 * 2 ^ place
raised_high size top place most room =
    let whole : place ≡ top + (place - top) = omega arith in
    let parts : 2 ^ place ≡ 2 ^ top * 2 ^ (place - top) = ap (λ (n : ℕ). 2 ^ n) whole ∙
    pow-add 2 top (place - top) in
    let some : 0 < 2 ^ (place - top) = pow_pos (place - top) in
    let more : (size + 1) * 2 ^ (place - top) ≤ (2 * 2 ^ top) * 2 ^ (place - top) =
    mul-le-mul_right (2 ^ (place - top)) (omega arith) in
    omega (arith, parts, some, more)

pub place_few : (place : ℕ) → place ≤ 52 → 2 ^ place ≤ 2 ^ 52
place_few place few = pow-le-pow_right (omega arith) few

-- ---- shifts down

pub shift_all : (z : ℤ) (right k : ℕ) → SFits w64 z → k ≡ min right 63 → shr_z z (2 ^ k) ≡
    shr_z z (2 ^ right)
shift_all z right k fits is = grind (arith, nat_tests, cases_lt, pow-le-pow_right, shift_gone)

pub shift_fits : (z : ℤ) (m : ℕ) → SFits w64 z → SFits w64 (shr_z z m)
shift_fits z m fits = record { sfits = omega (arith, mag_shr z m, fits.sfits) }

-- ---- a number in 1/32, held

pub with_sign-times : (negative : Bool) (a b : ℕ) → (with_sign negative a *ℤ pos b) ≡
    with_sign negative (a * b)
with_sign-times negative a b = grind (arith, nat_tests)

held_large : (negative : Bool) (a : ℕ) → 2 ^ 40 ≤ a → with_sign negative (2 ^ 40) ≡
    held (with_sign negative a)
held_large false a large = omega (arith, ints, clamps)
held_large true a large = omega (arith, ints, clamps)

pub fixes_large : (negative : Bool) (size power : ℕ) → 1070 ≤ power → 2 ^ 52 ≤ size →
    FixesParts negative size power (with_sign negative (2 ^ 40))
fixes_large negative size power high large =
    let whole : power ≡ (power - 1070) + 1070 = omega arith in
    let parts : 2 ^ power ≡ 2 ^ (power - 1070) * 2 ^ 1070 = ap (λ (n : ℕ). 2 ^ n) whole ∙
    pow-add 2 (power - 1070) 1070 in
    let times : 32 * (size * 2 ^ power) ≡ size * 2 ^ (power - 1070) * 2 ^ 1075 =
    omega (arith, ap (λ (n : ℕ). size * n) parts) in
    let some : 0 < 2 ^ (power - 1070) = pow_pos (power - 1070) in
    let wide : size * 1 ≤ size * 2 ^ (power - 1070) = mul-le-mul_left size some in
    record {
      floor = with_sign negative (size * 2 ^ (power - 1070));
      floored = floor_exact _ _ (2 ^ 1075) (pow_pos 1075) (ap (with_sign negative) times ∙
          sym (with_sign-times negative (size * 2 ^ (power - 1070)) (2 ^ 1075)));
      held = held_large negative (size * 2 ^ (power - 1070)) (omega (arith, wide));
    }

pub fixes_shifted : (negative : Bool) (size power : ℕ) (n : ℤ) → power < 1070 →
    n ≡ held (shr_z (with_sign negative size) (2 ^ (1070 - power))) →
    FixesParts negative size power n
fixes_shifted negative size power n low is =
    let whole : 1070 ≡ power + (1070 - power) = omega arith in
    let parts : 2 ^ 1070 ≡ 2 ^ power * 2 ^ (1070 - power) = ap (λ (n : ℕ). 2 ^ n) whole ∙
    pow-add 2 power (1070 - power) in
    let top : 1 * (32 * (size * 2 ^ power)) ≡ size * (32 * 2 ^ power) = omega arith in
    let bottom : 1 * 2 ^ 1075 ≡ 32 * 2 ^ power * 2 ^ (1070 - power) = omega (arith, parts) in
    let some : 0 < 2 ^ power = pow_pos power in
    record {
      floor = shr_z (with_sign negative size) (2 ^ (1070 - power));
      floored = shift_floor negative size (2 ^ (1070 - power)) (32 * 2 ^ power) 1
          (32 * (size * 2 ^ power)) (2 ^ 1075) (pow_pos (1070 - power)) (omega (arith, some))
          (omega arith) top bottom;
      held = is;
    }
