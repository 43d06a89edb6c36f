-- The pattern of a number is the only one that stands for it, so what is said by inequalities is
-- what is worked out.
use Rattle.std.proofs.Common.{◌≡◌, ℕ, zero, suc, ◌+◌, ◌-◌, ◌*◌, ◌%◌, ◌^◌, ◌<◌, ◌≤◌, max, Bool, true}
use Rattle.std.proofs.Common.{false, cond, refl, sym, ap, ◌∙◌, arith, ne_eqb}
use Rattle.std.specs.Prelude.{unsigned_abs}
use Rattle.std.proofs.Math.Nat.{mul-le-mul_right, pow-le-pow_right, eq_of_mul-eq-mul_right}
use Rattle.std.proofs.lemmas.Bool.Decides.{nat_tests}
use Rattle.std.proofs.lemmas.Bool.{cases_lt, leb-true, leb-false}
use Rattle.std.proofs.lemmas.Nat.{pow-add, pow_pos}
use lib.IntN.{ℤ, pos, negsuc, ◌*ℤ◌}
use Rattle.mc_fields.specs.Pattern.{Represents, RepresentsTurn, exponent, power, significand}
use Rattle.mc_fields.specs.Pattern.{significand_of, is_negative, with_sign}
use Rattle.mc_fields.proofs.Floors.{with_sign-times}
use Rattle.mc_fields.proofs.Patterns.{significand_hidden}
use Rattle.mc_model.specs.Numbers.{top_bit, pattern_with, is_below_0, pattern_of, degrees_of}

-- ---- the highest bit

-- it is in the number
top_bit_in : (k n : ℕ) → 1 ≤ n → 2 ^ top_bit k n ≤ n
top_bit_in zero n some = some
top_bit_in (suc k) n some = grind (arith, nat_tests, top_bit_in k n some)

-- and none above it is
top_bit_last : (k n : ℕ) → n < 2 ^ suc k → n < 2 ^ suc (top_bit k n)
top_bit_last zero n few = few
top_bit_last (suc k) n few = grind (arith, nat_tests, top_bit_last k n)

-- it is at most the most that is looked at
top_bit_most : (k n j : ℕ) → 1 ≤ n → n < 2 ^ suc j → top_bit k n ≤ j
top_bit_most k n j some few =
    grind (arith, nat_tests, cases_lt j (top_bit k n), pow-le-pow_right, top_bit_in k n some)

-- ---- one number has one exponent and one significand

below : (a b : ℕ) → 2 ^ a < 2 ^ b → a < b
below a b lt = grind (arith, nat_tests, cases_lt, pow-le-pow_right)

-- a number of size sig * 2^e / 2^(bias + f), 32 times as large, is n
pub record IsScaled (f bias n sig e : ℕ) : Type 0 where
  pub low : 2 ^ f ≤ sig
  pub high : sig < 2 ^ suc f
  pub is : 32 * (sig * 2 ^ e) ≡ n * 2 ^ (bias + f)

one_exponent : (f bias n t sig e : ℕ) → 2 ^ t ≤ n → n < 2 ^ suc t → IsScaled f bias n sig e →
    e + 5 ≡ bias + t
one_exponent f bias n t sig e least most scaled = grind (
  arith,
  pow_pos (bias + f),
  pow_pos e,
  pow-add 2 5 (f + e),
  pow-add 2 f e,
  pow-add 2 (suc t) (bias + f),
  pow-add 2 5 (suc f + e),
  pow-add 2 (suc f) e,
  pow-add 2 t (bias + f),
  below (5 + (f + e)) (suc t + (bias + f)),
  below (t + (bias + f)) (5 + (suc f + e)),
)

one_significand : (f bias n t sig e : ℕ) → t ≤ f → e + 5 ≡ bias + t → IsScaled f bias n sig e →
    sig ≡ n * 2 ^ (f - t)
one_significand f bias n t sig e few is scaled =
    let left : 32 * (sig * 2 ^ e) ≡ sig * 2 ^ (e + 5) = rw (pow-add 2 e 5) (omega arith) in
    let whole : (bias + t) + (f - t) ≡ bias + f = omega arith in
    let right : n * 2 ^ (bias + f) ≡ (n * 2 ^ (f - t)) * 2 ^ (bias + t) =
    rw (sym whole, pow-add 2 (bias + t) (f - t)) (omega arith) in
    eq_of_mul-eq-mul_right (2 ^ (bias + t)) (pow_pos (bias + t)) sig (n * 2 ^ (f - t))
    (ap (λ (k : ℕ). sig * 2 ^ k) (sym is) ∙ sym left ∙ scaled.is ∙ right)

-- what a pattern without its sign is, from its exponent and its significand
made : (f bias n t sig e rest : ℕ) → 6 ≤ bias → t ≤ f → sig ≡ 2 ^ f + rest → 2 ^ t ≤ n →
    n < 2 ^ suc t → IsScaled f bias n sig e →
    e * 2 ^ f + rest ≡ (bias - 6 + t) * 2 ^ f + n * 2 ^ (f - t)
made f bias n t sig e rest enough few hidden least most scaled =
    let at = one_exponent f bias n t sig e least most scaled in
    let is = one_significand f bias n t sig e few at scaled in
    let one : e ≡ (bias - 6 + t) + 1 = omega (arith, at) in
    rw (one, sym is, hidden) (omega arith)

-- a pattern of a number that is not 0 has an exponent
some_exponent : (f e rest n k : ℕ) → 1 ≤ n → rest < 2 ^ f → 2 ^ (f + 6) ≤ 2 ^ k →
    32 * (significand_of f e rest * 2 ^ max e 1) ≡ n * 2 ^ k → 0 < e
some_exponent f e rest n k some few wide is = grind (arith, nat_tests, mul-le-mul_right, pow-add)

-- the exponent and the fraction of a size that is not 0 are those that are worked out
one_size : (f bias n e rest : ℕ) → 6 ≤ bias → 1 ≤ n → n < 2 ^ 33 → top_bit 32 n ≤ f → rest < 2 ^ f →
    32 * (significand_of f e rest * 2 ^ max e 1) ≡ n * 2 ^ (bias + f) →
    e * 2 ^ f + rest ≡ pattern_with f bias n
one_size f bias n e rest enough some small few fits is =
    let wide : 2 ^ (f + 6) ≤ 2 ^ (bias + f) = pow-le-pow_right (omega arith) (omega arith) in
    let there : 0 < e = some_exponent f e rest n (bias + f) some fits wide is in
    let hidden : significand_of f e rest ≡ 2 ^ f + rest = significand_hidden f e rest there in
    let powered : max e 1 ≡ e = omega arith in
    let scaled : IsScaled f bias n (2 ^ f + rest) e = grind (arith, nat_tests) in
    rw (ne_eqb n 0 (omega arith)) (made f bias n (top_bit 32 n)
    (2 ^ f + rest) e rest enough few refl (top_bit_in 32 n some)
    (top_bit_last 32 n small) scaled)

-- two equal numbers with a sign have one size, and one sign where that is not 0
one_signed : (a b : Bool) (x y : ℕ) → with_sign a x ≡ with_sign b y → x ≡ y
one_signed a b x y e = grind (arith, nat_tests)

one_sign : (a b : Bool) (x y : ℕ) → 1 ≤ y → with_sign a x ≡ with_sign b y → a ≡ b
one_sign a b x y some e = grind (arith, nat_tests)

signed_is : (n : ℤ) → n ≡ with_sign (is_below_0 n) (unsigned_abs n)
signed_is (pos m) = refl
signed_is (negsuc m) = refl

-- ---- binary64

parts_64 : (p : ℕ) (b : Bool) → p < 2 ^ 64 → is_negative 52 11 p ≡ b →
    p ≡ exponent 52 11 p * 2 ^ 52 + p % 2 ^ 52 + cond b (2 ^ 63) 0
parts_64 p true few e = let big : 2 ^ 63 ≤ p = leb-true (2 ^ 63) p e in omega arith
parts_64 p false few e = let small : p < 2 ^ 63 = leb-false (2 ^ 63) p e in omega arith

some_one : (n : ℤ) (p : ℕ) → 1 ≤ unsigned_abs n → unsigned_abs n < 2 ^ 33 → p < 2 ^ 64 →
    Represents n p → p ≡ pattern_of n
unfolding pattern_of
some_one n p some few fits stands =
    let exact : with_sign (is_negative 52 11 p)
    (32 * (significand 52 11 p * 2 ^ power 52 11 p)) ≡ with_sign (is_below_0 n)
    (unsigned_abs n * 2 ^ 1075) =
    stands.exact ∙ ap (λ (z : ℤ). z *ℤ pos (2 ^ 1075)) (signed_is n)
    ∙ with_sign-times (is_below_0 n) (unsigned_abs n) (2 ^ 1075) in
    let size = one_signed (is_negative 52 11 p) (is_below_0 n)
    (32 * (significand 52 11 p * 2 ^ power 52 11 p)) (unsigned_abs n * 2 ^ 1075) exact in
    let sign = one_sign (is_negative 52 11 p) (is_below_0 n)
    (32 * (significand 52 11 p * 2 ^ power 52 11 p)) (unsigned_abs n * 2 ^ 1075)
    (omega arith) exact in
    let unsigned = one_size 52 1023 (unsigned_abs n) (exponent 52 11 p) (p % 2 ^ 52)
    (omega arith) some few (omega (arith, top_bit_most 32 (unsigned_abs n) 32 some few))
    (omega arith) size in
    parts_64 p (is_below_0 n) fits sign
    ∙ ap (λ (q : ℕ). q + cond (is_below_0 n) (2 ^ 63) 0) unsigned

-- the pattern of a number is the one that is worked out
pub pattern_one : (n : ℤ) (p : ℕ) → unsigned_abs n < 2 ^ 33 → p < 2 ^ 64 → (n ≡ pos 0 → p ≡ 0) →
    Represents n p → p ≡ pattern_of n
unfolding pattern_of
pattern_one n p few fits none stands = grind (arith, nat_tests, some_one)

-- ---- binary32

parts_32 : (p : ℕ) → p < 2 ^ 32 → is_negative 23 8 p ≡ false →
    p ≡ exponent 23 8 p * 2 ^ 23 + p % 2 ^ 23
parts_32 p few e = let small : p < 2 ^ 31 = leb-false (2 ^ 31) p e in omega arith

some_turn : (a p : ℕ) → 1 ≤ a → a < 256 → p < 2 ^ 32 → RepresentsTurn a p → p ≡ degrees_of a
unfolding degrees_of
some_turn a p some few fits stands =
    let size = one_signed (is_negative 23 8 p) false (32 * (significand 23 8 p * 2 ^ power 23 8 p))
    (a * 45 * 2 ^ 150) stands.exact in
    let sign = one_sign (is_negative 23 8 p) false (32 * (significand 23 8 p * 2 ^ power 23 8 p))
    (a * 45 * 2 ^ 150) (omega arith) stands.exact in
    parts_32 p fits sign ∙ one_size 23 127 (a * 45) (exponent 23 8 p) (p % 2 ^ 23) (omega arith)
    (omega arith) (omega arith) (omega
    (arith, top_bit_most 32 (a * 45) 13 (omega arith) (omega arith))) (omega arith) size

-- the pattern of an angle is the one that is worked out
pub degrees_one : (a p : ℕ) → a < 256 → p < 2 ^ 32 → (a ≡ 0 → p ≡ 0) → RepresentsTurn a p →
    p ≡ degrees_of a
unfolding degrees_of
degrees_one zero p few fits none stands = none refl
degrees_one (suc a) p few fits none stands = some_turn (suc a) p (omega arith) few fits stands
