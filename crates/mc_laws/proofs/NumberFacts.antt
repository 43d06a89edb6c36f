-- The numbers that are worked out of patterns, and the patterns that are worked out of numbers.
use Rattle.std.proofs.Common.{◌≡◌, ℕ, zero, suc, ◌+◌, ◌-◌, ◌*◌, ◌^◌, ◌<◌, ◌≤◌, Bool, true, false}
use Rattle.std.proofs.Common.{cond, refl, sym, subst, ap, ◌∙◌, arith, inl, inr}
use Rattle.std.specs.Prelude.{◌↔◌, ◌⊎◌, ◌||◌, ◌==◌, nat_le, unsigned_abs, Some, None}
use Rattle.std.specs.Prelude.{if◌then◌else◌}
use Rattle.std.specs.Int.{int_div_euclid, int_rem_euclid}
use Rattle.std.proofs.Math.Nat.{pow-suc, pow-le-pow_right}
use Rattle.std.proofs.lemmas.Bool.{eqb-true, eqb-false, eq-eqb, ne_eqb, leb-true, leb-false, le-leb}
use Rattle.std.proofs.lemmas.Nat.{pow_pos}
use lib.IntN.{ℤ, pos, negsuc}
use lib.Signed.{shr_z}
use Rattle.mc_fields.specs.Pattern.{is_negative, exponent, significand, power, with_sign, held}
use Rattle.mc_fields.specs.Pattern.{IsFloor, Fixes, IsEndless, Represents, Turns, IsVast}
use Rattle.mc_fields.specs.Pattern.{RepresentsTurn}
use Rattle.mc_fields.specs.PatternLaws.{shift_floor}
use Rattle.mc_fields.proofs.Floors.{raised_low, raised_high}
use Rattle.mc_fields.proofs.Patterns.{stands_positive, stands_negative, stands_turn}
use Rattle.mc_model.specs.Numbers.{fixed_of, turn_of, top_bit, pattern_with, pattern_of, degrees_of}
use Rattle.mc_model.proofs.FitsNumbers.{top_bit_above, top_bit_below}
use Rattle.mc_model.proofs.Maps.Options.{some_is}

-- ---- floors

-- a quotient of whole numbers is a floor
div_floor : (negative : Bool) (size bottom : ℕ) → 0 < bottom
    → IsFloor (int_div_euclid (with_sign negative size) (pos bottom))
    (with_sign negative size) bottom
div_floor negative size bottom some =
    let P : ℤ → Type 0 = λ z. IsFloor z (with_sign negative size) bottom in
    subst P (sym (same (with_sign negative size)))
    (shift_floor negative size bottom 1 1 size bottom some (omega arith) (omega arith)
    (omega arith) (omega arith))
  where
    same : (z : ℤ) → int_div_euclid z (pos bottom) ≡ shr_z z bottom
    same (pos a) = refl
    same (negsuc a) = refl

-- a binary64 pattern
pub fixes : (p : ℕ) (n : ℤ) → fixed_of p ≡ Some n → Fixes p n
unfolding fixed_of
fixes p n e = step (exponent 52 11 p == 2047) refl e
  where
    floor : ℤ
    floor = int_div_euclid (with_sign (is_negative 52 11 p)
        (32 * (significand 52 11 p * 2 ^ power 52 11 p))) (pos (2 ^ 1075))

    step : (t : Bool) → (exponent 52 11 p == 2047) ≡ t →
        (if t then None else Some (held floor)) ≡ Some n → Fixes p n
    step true is e = absurd cc
    step false is e = record {
      ends = omega (arith, eqb-false (exponent 52 11 p) 2047 is);
      parts = record {
        floor = floor;
        floored = div_floor (is_negative 52 11 p) (32 * (significand 52 11 p * 2 ^ power 52 11 p))
            (2 ^ 1075) (pow_pos 1075);
        held = sym (some_is (held floor) n e);
      };
    }

-- where nothing is there, the test passed
none_where : {A : Type 0} (t : Bool) (a : A) → (if t then None else Some a) ≡ None → t ≡ true
none_where true a e = refl
none_where false a e = absurd cc

-- there is none exactly where it stands for no number
pub endless : (p : ℕ) → fixed_of p ≡ None ↔ IsEndless p
unfolding fixed_of
endless p = (
  λ e. eqb-true (exponent 52 11 p) 2047 (none_where (exponent 52 11 p == 2047) _ e),
  λ is. rw (eq-eqb (exponent 52 11 p) 2047 is) refl,
)

-- a binary32 pattern
pub turns : (p a : ℕ) → turn_of p ≡ Some a → Turns p a
unfolding turn_of
turns p a e = step (exponent 23 8 p == 255 || nat_le (2 ^ 31 * 2 ^ 150)
    (significand 23 8 p * 2 ^ power 23 8 p)) refl e
  where
    floor : ℤ
    floor = int_div_euclid (with_sign (is_negative 23 8 p)
        (256 * (significand 23 8 p * 2 ^ power 23 8 p))) (pos (360 * 2 ^ 150))

    rest_is : (z d : ℤ) → pos (unsigned_abs (int_rem_euclid z d)) ≡ int_rem_euclid z d
    rest_is (pos n) d = refl
    rest_is (negsuc n) d = refl

    neither : (s t : Bool) → (s || t) ≡ false → (s ≡ false) × (t ≡ false)
    neither false false is = (refl, refl)
    neither false true is = absurd cc
    neither true t is = absurd cc

    step : (t : Bool) → (exponent 23 8 p == 255 || nat_le (2 ^ 31 * 2 ^ 150)
        (significand 23 8 p * 2 ^ power 23 8 p)) ≡ t →
        (if t then None else Some (unsigned_abs (int_rem_euclid floor (pos 256)))) ≡ Some a →
        Turns p a
    step true is e = absurd cc
    step false is e =
        let both = neither (exponent 23 8 p == 255)
        (nat_le (2 ^ 31 * 2 ^ 150) (significand 23 8 p * 2 ^ power 23 8 p)) is in
        record {
          ends = omega (arith, eqb-false (exponent 23 8 p) 255 both.0);
          small = leb-false _ _ both.1;
          parts = record {
            floor = floor;
            floored = div_floor (is_negative 23 8 p) (256 * (significand 23 8 p * 2 ^ power 23 8 p))
                (360 * 2 ^ 150) (omega arith);
            rest = ap pos (sym (some_is (unsigned_abs (int_rem_euclid floor (pos 256))) a e))
                ∙ rest_is floor (pos 256);
          };
        }

-- one of two tests passed
either : (a b : Bool) → (a || b) ≡ true → (a ≡ true) ⊎ (b ≡ true)
either true b e = inl refl
either false b e = inr e

-- the second of two tests passed
or_second : (a b : Bool) → b ≡ true → (a || b) ≡ true
or_second true b e = refl
or_second false b e = e

-- exactly where one of two tests passes
vast_where : {A : Type 0} (e most size : ℕ) (a : A)
    → (if e == 255 || nat_le most size then None else Some a) ≡ None ↔ ((e ≡ 255) ⊎ (most ≤ size))
vast_where e most size a = (
  (λ none. elim (either (e == 255) (nat_le most size)
      (none_where (e == 255 || nat_le most size) a none)) [
        | inl full ↦ inl (eqb-true e 255 full)
        | inr large ↦ inr (leb-true most size large)
      ]),
  (λ vast. elim vast [
    | inl full ↦ rw (eq-eqb e 255 full) refl
    | inr large ↦ rw (or_second (e == 255) (nat_le most size) (le-leb most size large)) refl
  ]),
)

-- there is none exactly where it is vast
pub vast : (p : ℕ) → turn_of p ≡ None ↔ IsVast p
unfolding turn_of
vast p = vast_where (exponent 23 8 p) (2 ^ 31 * 2 ^ 150) (significand 23 8 p * 2 ^ power 23 8 p) _

-- ---- patterns

-- a number that is not 0 is its highest bit at least
top_bit_least : (k n : ℕ) → 0 < n → 2 ^ top_bit k n ≤ n
top_bit_least zero n some = omega (arith, some)
top_bit_least (suc k) n some = step (nat_le (2 ^ suc k) n) refl (top_bit_least k n some)
  where
    step : (t : Bool) → nat_le (2 ^ suc k) n ≡ t → 2 ^ top_bit k n ≤ n →
        2 ^ cond t (suc k) (top_bit k n) ≤ n
    step true t rest = leb-true _ _ t
    step false t rest = rest

-- the significand of a number that is not 0
record IsSignificand (n place top : ℕ) : Type 0 where
  least : 2 ^ place ≤ n * 2 ^ (place - top)
  most : n * 2 ^ (place - top) < 2 * 2 ^ place

-- its highest bit comes to the top of the fraction
significand_is : (n place most : ℕ) → 0 < n → n < 2 ^ suc most → most ≤ place → most ≤ 32 →
    IsSignificand n place (top_bit 32 n)
significand_is n place most some small within few =
    let below = top_bit_below 32 n most small in
    let lower : suc most ≤ 33 = omega (arith, few) in
    let wide : 2 ^ suc most ≤ 2 ^ 33 = pow-le-pow_right (omega arith) lower in
    let above = top_bit_above 32 n (omega (arith, small, wide)) in
    let twice : n < 2 ^ top_bit 32 n * 2 = rw (pow-suc 2 (top_bit 32 n)) at above in
    record {
      least = raised_low n (top_bit 32 n) place (top_bit_least 32 n some)
          (omega (arith, below, within));
      most = raised_high n (top_bit 32 n) place (omega (arith, twice))
          (omega (arith, below, within));
    }

-- the pattern of a number that is not 0, from its significand
some_pattern : (fraction bias n : ℕ) → 0 < n
    → pattern_with fraction bias n ≡ (bias - 6 + top_bit 32 n) * 2 ^ fraction + n * 2 ^
    (fraction - top_bit 32 n)
some_pattern fraction bias n some = rw (ne_eqb n 0 (omega (arith, some))) refl

-- 0
zero_stands : Represents (pos 0) (pattern_of (pos 0))
unfolding pattern_of
zero_stands = record { ends = omega arith; exact = refl }

-- above 0
positive_stands : (n : ℕ) → 0 < n → n < 2 ^ 32 → Represents (pos n) (pattern_with 52 1023 n + 0)
positive_stands n some small =
    let s = significand_is n 52 31 some small (omega arith) (omega arith) in
    let top = top_bit_below 32 n 31 small in
    let is : (1018 + top_bit 32 n) * 4503599627370496 +
    (n * 2 ^ (52 - top_bit 32 n) - 4503599627370496) ≡ pattern_with 52 1023 n + 0 =
    omega (arith, some_pattern 52 1023 n some, s.least) in
    subst (Represents (pos n)) is (stands_positive n (top_bit 32 n)
    (n * 2 ^ (52 - top_bit 32 n)) s.least s.most (omega (arith, top)) refl)

-- below 0
negative_stands : (n : ℕ) → n < 2 ^ 32 → suc n < 2 ^ 32 →
    Represents (negsuc n) (pattern_with 52 1023 (suc n) + 2 ^ 63)
negative_stands n less small =
    let s = significand_is (suc n) 52 31 (omega arith) small (omega arith) (omega arith) in
    let top = top_bit_below 32 (suc n) 31 small in
    let is : 9223372036854775808 + (1018 + top_bit 32 (suc n)) * 4503599627370496 +
    (suc n * 2 ^ (52 - top_bit 32 (suc n)) - 4503599627370496) ≡ pattern_with 52 1023
    (suc n) + 2 ^ 63 =
    omega (arith, some_pattern 52 1023 (suc n) (omega arith), s.least) in
    subst (Represents (negsuc n)) is
    (stands_negative (suc n) (top_bit 32 (suc n))
    (suc n * 2 ^ (52 - top_bit 32 (suc n))) s.least s.most (omega (arith, top)) refl)

-- the pattern of a whole number stands for it
pub pattern_stands : (n : ℤ) → unsigned_abs n < 2 ^ 32 → Represents n (pattern_of n)
unfolding pattern_of
pattern_stands (pos zero) small = zero_stands
pattern_stands (pos (suc n)) small = positive_stands (suc n) (omega arith) small
pattern_stands (negsuc n) small = negative_stands n (omega (arith, small)) small

-- no turn
no_turn_stands : RepresentsTurn 0 (degrees_of 0)
unfolding degrees_of
no_turn_stands = record { ends = omega arith; exact = refl }

-- some turn
some_turn_stands : (a : ℕ) → 0 < a → a < 256 → RepresentsTurn a (pattern_with 23 127 (a * 45))
some_turn_stands a some small =
    let less : a * 45 < 2 ^ suc 13 = omega (arith, small) in
    let s = significand_is (a * 45) 23 13 (omega (arith, some)) less (omega arith) (omega arith) in
    let top = top_bit_below 32 (a * 45) 13 less in
    let is : (122 + top_bit 32 (a * 45)) * 8388608 +
    (a * 45 * 2 ^ (23 - top_bit 32 (a * 45)) - 8388608) ≡ pattern_with 23 127 (a * 45) =
    omega (arith, some_pattern 23 127 (a * 45) (omega (arith, some)), s.least) in
    subst (RepresentsTurn a) is (stands_turn a (top_bit 32 (a * 45))
    (a * 45 * 2 ^ (23 - top_bit 32 (a * 45))) s.least s.most (omega (arith, top)) refl)

-- the pattern of an angle stands for it
pub degrees_stand : (a : ℕ) → a < 256 → RepresentsTurn a (degrees_of a)
unfolding degrees_of
degrees_stand zero small = no_turn_stands
degrees_stand (suc a) small = some_turn_stands (suc a) (omega arith) small
