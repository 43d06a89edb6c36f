-- The bits of a mask.
use Rattle.std.proofs.Common.{◌≡◌, ℕ, zero, suc, ◌+◌, ◌*◌, ◌/◌, ◌^◌, ◌<◌, ◌≤◌, Bool, true}
use Rattle.std.proofs.Common.{false, cond, refl, arith}
use Rattle.std.proofs.Math.Nat.{pow-le-pow_right, zero-div}
use Rattle.std.proofs.lemmas.Bool.Decides.{nat_tests}
use Rattle.std.proofs.lemmas.Nat.{shr-shr}
use Rattle.mc_column.specs.Body.{is_named}
use Rattle.mc_column.specs.Sent.{bits}

pub bits_below : (test : ℕ → Bool) (i n : ℕ) → bits test i n < 2 ^ n
bits_below test i zero = omega arith
bits_below test i (suc n) = grind (arith, nat_tests, bits_below test (suc i) n)

-- one more bit below leaves room for it in two bytes
pub bits_room : (test : ℕ → Bool) (i n : ℕ) → n < 16 → bits test i n < 32768
bits_room test i n lt = grind (arith, nat_tests, pow-le-pow_right, bits_below)

-- one more bit at the low end
pub bits_more : (test : ℕ → Bool) (i n m : ℕ) → n ≡ m + 1 → bits test i n ≡ cond (test i) 1 0 + 2 *
    bits test (suc i) m
bits_more test i zero m e = absurd (omega arith)
bits_more test i (suc n) m e = let same : n ≡ m = omega arith in rw same refl

pub bits_same : (f g : ℕ → Bool) (i n : ℕ) → ((k : ℕ) → i ≤ k → k < i + n → f k ≡ g k) →
    bits f i n ≡ bits g i n
bits_same f g i zero same = refl
bits_same f g i (suc n) same = grind (arith, nat_tests, bits_same f g (suc i) n)

-- the bit of a number is the test of it
pub bits_named : (test : ℕ → Bool) (i n k : ℕ) → k < n → is_named (bits test i n) k ≡ test (i + k)
bits_named test i zero k lt = absurd (omega arith)
bits_named test i (suc n) zero lt = grind (arith, nat_tests)
bits_named test i (suc n) (suc k) lt = grind (arith, bits_named test (suc i) n k, shifted)
  where
    small : (b : Bool) → cond b 1 0 < 2
    small true = omega arith
    small false = omega arith

    shifted : (b m k : ℕ) → b < 2 → (b + 2 * m) / 2 ^ suc k ≡ m / 2 ^ k
    shifted b m k lt = grind (arith, nat_tests, shr-shr (b + 2 * m) 1 k)

-- no bit is set in 0 alone
pub bits_zero : (test : ℕ → Bool) (i n k : ℕ) → bits test i n ≡ 0 → k < n → test (i + k) ≡ false
bits_zero test i n k none lt = grind (arith, nat_tests, bits_named test i n k lt, zero-div (2 ^ k))
