-- Reading digits one by one.
use Rattle.std.proofs.Common.{◌≡◌, ℕ, ◌+◌, ◌-◌, ◌*◌, ◌^◌, ◌<◌, ◌≤◌, true, false, List, length}
use Rattle.std.proofs.Common.{get_or, drop, Some, None, refl, arith, add-one, drop-cons}
use Rattle.std.specs.Char.{is_ascii_digit}
use Rattle.std.proofs.lemmas.List.{drop_all}
use Rattle.std.proofs.Math.Nat.{pow-suc}
use Rattle.mc_text.specs.Digits.{digits_after}

-- one more digit
pub next_digit : (digits : List ℕ) (i value : ℕ) → i < length digits →
    is_ascii_digit (get_or digits i 0) ≡ true → digits_after value (drop i digits)
    ≡ digits_after (10 * value + (get_or digits i 0 - 48)) (drop (i + 1) digits)
next_digit digits i value less digit = rw (add-one, drop-cons digits i 0, digit) refl

-- a byte that is no digit
pub no_digit : (digits : List ℕ) (i value : ℕ) → i < length digits →
    is_ascii_digit (get_or digits i 0) ≡ false → digits_after value (drop i digits) ≡ None
no_digit digits i value less digit = rw (drop-cons digits i 0, digit) refl

-- no byte is left
pub digits_done : (digits : List ℕ) (i value : ℕ) → length digits ≤ i →
    digits_after value (drop i digits) ≡ Some value
digits_done digits i value past = rw (drop_all i digits past) refl

-- one more digit is one more power of ten
pub digits_more : (i value digit : ℕ) → value < 10 ^ i → digit ≤ 9 →
    10 * value + digit < 10 ^ (i + 1)
digits_more i value digit small most = rw (add-one, pow-suc) (omega (arith, small, most))
