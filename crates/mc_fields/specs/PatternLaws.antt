-- Floors by shifts: what is shifted is the floor, and there is one.
use Rattle.std.specs.Prelude.{◌≡◌, ℕ, zero, suc, ◌+◌, ◌*◌, ◌/◌, ◌<◌, ◌≤◌, Bool, true, false}
use Rattle.std.proofs.Common.{ap, arith, inl, inr}
use Rattle.std.proofs.Math.Nat.{mul-le-mul_left, mul-le-mul_right, le_of_mul-le-mul_left}
use Rattle.std.proofs.Math.Nat.{div-div-eq-div-mul, div-eq_of_lt}
use Rattle.std.proofs.lemmas.Bool.{cases_lt}
use Rattle.std.proofs.lemmas.Int.{ints}
use lib.IntN.{ℤ, pos, negsuc, neg_ℤ, ◌*ℤ◌}
use lib.Signed.{mag, shr_z}
use Rattle.std.specs.Int.{int_div_euclid}
use Rattle.mc_fields.specs.Pattern.{IsFloor, with_sign}

-- ---- a floor is one number

-- a quotient that is less than one more
under_next : (n m b : ℕ) → n * b < m * b + b → n ≤ m
under_next n m b lt =
    elim (cases_lt m n) [
      | inl more ↦ let big : (m + 1) * b ≤ n * b = mul-le-mul_right b (omega arith) in
          absurd (omega (arith, big))
      | inr le ↦ le
    ]

pub floor_one : (n m top : ℤ) (b : ℕ) → IsFloor n top b → IsFloor m top b → n ≡ m
floor_one (pos n) (pos m) top b f g =
    let le : n ≤ m = under_next n m b (omega (arith, ints, f.least, f.most, g.least, g.most)) in
    let ge : m ≤ n = under_next m n b (omega (arith, ints, f.least, f.most, g.least, g.most)) in
    let same : n ≡ m = omega arith in
    ap pos same
floor_one (negsuc n) (negsuc m) top b f g =
    let le : n ≤ m = under_next n m b (omega (arith, ints, f.least, f.most, g.least, g.most)) in
    let ge : m ≤ n = under_next m n b (omega (arith, ints, f.least, f.most, g.least, g.most)) in
    let same : n ≡ m = omega arith in
    ap negsuc same
floor_one (pos n) (negsuc m) top b f g =
    absurd (omega (arith, ints, f.least, f.most, g.least, g.most))
floor_one (negsuc n) (pos m) top b f g =
    absurd (omega (arith, ints, f.least, f.most, g.least, g.most))

-- a whole number is its own floor
pub floor_exact : (n top : ℤ) (b : ℕ) → 0 < b → top ≡ (n *ℤ pos b) → IsFloor n top b
floor_exact n top b some e =
    record { least = omega (arith, ints, e); most = omega (arith, ints, e) }

-- ---- the floor of a shift: size / m where top is size * c / u and bottom is c * m / u

-- a common factor, at the bottom
under : (q m c u b : ℕ) → u * b ≡ c * m → u * (q * b) ≡ c * (q * m)
under q m c u b e = let times = ap (λ (x : ℕ). q * x) e in omega (arith, times)

low_under : (q size m c u t b : ℕ) → 0 < u → u * t ≡ size * c → u * b ≡ c * m → q * m ≤ size
    → q * b ≤ t
low_under q size m c u t b some top bottom le =
    let wide : u * (q * b) ≤ u * t = omega (
      arith,
      under q m c u b bottom,
      mul-le-mul_left c le,
      top,
    ) in
    le_of_mul-le-mul_left wide some

high_under : (q size m c u t b : ℕ) → 0 < u → u * t ≡ size * c → u * b ≡ c * m → size ≤ q * m
    → t ≤ q * b
high_under q size m c u t b some top bottom le =
    let wide : u * t ≤ u * (q * b) = omega (
      arith,
      under q m c u b bottom,
      mul-le-mul_left c le,
      top,
    ) in
    le_of_mul-le-mul_left wide some

low_over : (q size m c u t b : ℕ) → 0 < c → u * t ≡ size * c → u * b ≡ c * m → q * b ≤ t
    → q * m ≤ size
low_over q size m c u t b some top bottom le =
    let wide : c * (q * m) ≤ c * size = omega (
      arith,
      under q m c u b bottom,
      mul-le-mul_left u le,
      top,
    ) in
    le_of_mul-le-mul_left wide some

high_over : (q size m c u t b : ℕ) → 0 < c → u * t ≡ size * c → u * b ≡ c * m → t ≤ q * b
    → size ≤ q * m
high_over q size m c u t b some top bottom le =
    let wide : c * size ≤ c * (q * m) = omega (
      arith,
      under q m c u b bottom,
      mul-le-mul_left u le,
      top,
    ) in
    le_of_mul-le-mul_left wide some

-- a floor by the sizes, at each sign
floor_pos : (q t b : ℕ) → q * b ≤ t → t < (q + 1) * b → IsFloor (pos q) (pos t) b
floor_pos q t b low high = record { least = omega (arith, ints); most = omega (arith, ints) }

floor_neg : (q t b : ℕ) → q * b < t → t ≤ (q + 1) * b → IsFloor (negsuc q) (neg_ℤ (pos t)) b
floor_neg q t b low high = record { least = omega (arith, ints); most = omega (arith, ints) }

quotient : (size m : ℕ) → 0 < m → (size / m * m ≤ size) × (size < (size / m + 1) * m)
quotient size m some = (omega arith, omega arith)

some_factor : (u b k : ℕ) → u * b ≡ k → 0 < k → 0 < b
some_factor u zero k e some = absurd (omega (arith, e))
some_factor u (suc b) k e some = omega arith

pub shift_floor : (negative : Bool) (size m c u t b : ℕ) → 0 < m → 0 < c → 0 < u → u * t ≡ size * c
    → u * b ≡ c * m → IsFloor (shr_z (with_sign negative size) m) (with_sign negative t) b
shift_floor false size m c u t b some_m some_c some_u top bottom =
    let q = quotient size m some_m in
    floor_pos (size / m) t b (low_under (size / m) size m c u t b some_u top bottom q.0) (
    elim (cases_lt t ((size / m + 1) * b)) [
      | inl lt ↦ lt
      | inr le ↦ let more = low_over (size / m + 1) size m c u t b some_c top bottom le in
          absurd (omega (arith, more, q.1))
    ])
shift_floor true zero m c u t b some_m some_c some_u top bottom =
    let none : t ≤ 0 * b = high_under 0 0 m c u t b some_u top bottom (omega arith) in
    let nothing : t ≡ 0 = omega (arith, none) in
    let zero_is : 0 / m ≡ 0 = omega arith in
    let product : c * 1 ≤ c * m = mul-le-mul_left c some_m in
    let some : 0 < b = some_factor u b (c * m) bottom (omega (arith, product)) in
    rw (nothing, zero_is) (floor_pos 0 0 b (omega arith) (omega (arith, some)))
shift_floor true (suc a) m c u t b some_m some_c some_u top bottom =
    let q = quotient a m some_m in
    floor_neg (a / m) t b (
    elim (cases_lt (a / m * b) t) [
      | inl lt ↦ lt
      | inr le ↦ let more = high_over (a / m) (suc a) m c u t b some_c top bottom le in
          absurd (omega (arith, more, q.0))
    ]) (high_under (a / m + 1) (suc a) m c u t b some_u top bottom (omega (arith, q.1)))

-- ---- shifts

-- what is shifted by more than it has bits is gone
pub shift_gone : (z : ℤ) (m k : ℕ) → mag z < m → mag z < k → shr_z z m ≡ shr_z z k
shift_gone (pos a) m k few more =
    let e : a / m ≡ a / k = omega (arith, div-eq_of_lt few, div-eq_of_lt more) in ap pos e
shift_gone (negsuc a) m k few more =
    let e : a / m ≡ a / k = omega (arith, div-eq_of_lt few, div-eq_of_lt more) in ap negsuc e

-- a shift and then a quotient is one quotient
pub shift_then : (z : ℤ) (m k : ℕ) → int_div_euclid (shr_z z m) (pos k) ≡ shr_z z (m * k)
shift_then (pos a) m k = ap pos (div-div-eq-div-mul a m k)
shift_then (negsuc a) m k = ap negsuc (div-div-eq-div-mul a m k)
