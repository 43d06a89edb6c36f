-- The patterns of whole numbers fit their fields.
use Rattle.std.proofs.Common.{◌≡◌, ℕ, zero, suc, ◌+◌, ◌-◌, ◌*◌, ◌^◌, ◌<◌, ◌≤◌, Bool, true, false}
use Rattle.std.proofs.Common.{cond, refl, arith, inl, inr}
use Rattle.std.specs.Prelude.{nat_le, ◌==◌, unsigned_abs}
use Rattle.std.proofs.Math.Nat.{pow-le-pow_right, pow-suc}
use Rattle.std.proofs.lemmas.Bool.{cases_lt, leb-true}
use Rattle.std.proofs.lemmas.Bool.Decides.{nat_tests}
use lib.IntN.{ℤ}
use Rattle.mc_fields.proofs.Floors.{raised_high}
use Rattle.mc_model.specs.Numbers.{top_bit, pattern_with, is_below_0, pattern_of, degrees_of}

-- ---- the highest bit

-- a number is below twice its highest bit
pub top_bit_above : (k n : ℕ) → n < 2 ^ suc k → n < 2 ^ suc (top_bit k n)
top_bit_above zero n less = less
top_bit_above (suc k) n less = grind (arith, nat_tests, top_bit_above k n)

-- and where it is below a power, its highest bit is
pub top_bit_below : (k n j : ℕ) → n < 2 ^ suc j → top_bit k n ≤ j
top_bit_below zero n j less = omega arith
top_bit_below (suc k) n j less =
    step (nat_le (2 ^ suc k) n) refl (top_bit_below k n j less)
  where
    step : (t : Bool) → nat_le (2 ^ suc k) n ≡ t → top_bit k n ≤ j →
        cond t (suc k) (top_bit k n) ≤ j
    step true t rest = elim (cases_lt j (suc k)) [
      | inl lt ↦ (let wide : 2 ^ suc j ≤ 2 ^ suc k =
          pow-le-pow_right (omega arith) (omega (arith, lt)) in
          absurd (omega (arith, less, wide, leb-true _ _ t)))
      | inr le ↦ le
    ]
    step false t rest = rest

-- ---- patterns

-- the significand of a number, with its highest bit at a place
pub significand_below : (n place : ℕ) → n < 2 ^ 33 → top_bit 32 n ≤ place →
    n * 2 ^ (place - top_bit 32 n) < 2 * 2 ^ place
significand_below n place small within =
    let above : n < 2 ^ suc (top_bit 32 n) = top_bit_above 32 n small in
    let twice : n < 2 ^ top_bit 32 n * 2 = rw (pow-suc 2 (top_bit 32 n)) at above in
    raised_high n (top_bit 32 n) place (omega (arith, twice)) within

-- a pattern without its sign has 63 bits
pattern_below : (n : ℕ) → n < 2 ^ 32 → pattern_with 52 1023 n < 2 ^ 63
pattern_below n small = step (n == 0)
  where
    top : top_bit 32 n ≤ 31
    top = top_bit_below 32 n 31 small

    below : n * 2 ^ (52 - top_bit 32 n) < 2 * 2 ^ 52
    below = significand_below n 52 (omega (arith, small)) (omega (arith, top))

    step : (t : Bool) → cond t 0 ((1023 - 6 + top_bit 32 n) * 2 ^ 52 + n * 2 ^ (52 - top_bit 32 n))
        < 2 ^ 63
    step true = omega arith
    step false = omega (arith, below, top)

-- and with it 64
signed_below : (p : ℕ) (t : Bool) → p < 2 ^ 63 → p + cond t (2 ^ 63) 0 < 2 ^ 64
signed_below p true small = omega (arith, small)
signed_below p false small = omega (arith, small)

-- the pattern of a number of 32 bits has 64
pub pattern_fits : (n : ℤ) → unsigned_abs n < 2 ^ 32 → pattern_of n < 2 ^ 64
unfolding pattern_of
pattern_fits n small = signed_below (pattern_with 52 1023 (unsigned_abs n)) (is_below_0 n)
    (pattern_below (unsigned_abs n) small)

-- the pattern of an angle has 32
pub degrees_fit : (a : ℕ) → a < 256 → degrees_of a < 2 ^ 32
unfolding degrees_of
degrees_fit a small = grind (arith, nat_tests)
