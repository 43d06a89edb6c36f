-- Laws of positions: packing and unpacking undo one another.
use Rattle.std.specs.Prelude.{◌≡◌, ℕ, suc, ◌-◌, ◌*◌, ◌/◌, ◌%◌, ◌^◌, ◌<◌, Bool, true, false, nat_lt}
use Rattle.std.specs.Prelude.{if◌then◌else◌, refl}
use Rattle.std.proofs.Common.{arith, le-ltb, lt-ltb, ltb-true, ltb-false}
use lib.IntN.{ℤ, pos, negsuc}
use Rattle.mc_bytes.specs.CombineLaws.{IsView}
use Rattle.mc_fields.specs.declared.position.Cell.{Cell}
use Rattle.mc_fields.specs.PositionBits.{FitsHalf, low_bits, signed_bits, FitsCell, pack, unpack}

-- ---- the two undo one another

pub low_bits-below : (half : ℕ) (z : ℤ) → FitsHalf half z → low_bits half z < 2 * half
low_bits-below half (pos n) fits = omega (arith, fits)
low_bits-below half (negsuc n) fits = omega (arith, fits)

pub signed_bits-fits : (half n : ℕ) → n < 2 * half → FitsHalf half (signed_bits half n)
signed_bits-fits half n below = step (nat_lt n half) refl
  where
    step : (t : Bool) → nat_lt n half ≡ t → FitsHalf half (if t then pos n else
        negsuc (2 * half - suc n))
    step true t = ltb-true _ _ t
    step false t = let high = ltb-false _ _ t in omega (arith, high)

pub low_bits-signed : (half n : ℕ) → n < 2 * half → low_bits half (signed_bits half n) ≡ n
low_bits-signed half n below = step (nat_lt n half)
  where
    step : (t : Bool) → low_bits half (if t then pos n else negsuc (2 * half - suc n)) ≡ n
    step true = refl
    step false = omega arith

pub signed_bits-low : (half : ℕ) (z : ℤ) → FitsHalf half z → signed_bits half (low_bits half z) ≡ z
signed_bits-low half (pos n) fits = rw (lt-ltb n half fits) refl
signed_bits-low half (negsuc n) fits =
    let high = le-ltb (2 * half - suc n) half (omega (arith, fits)) in
    let same : 2 * half - suc (2 * half - suc n) ≡ n = omega (arith, fits) in
    rw (high, same) refl

pub unpack-fits : (word : ℕ) → word < 2 ^ 64 → FitsCell (unpack word)
unpack-fits word below = record {
  x = signed_bits-fits (2 ^ 25) (word / 2 ^ 38) (omega arith);
  y = signed_bits-fits (2 ^ 11) (word / 2 ^ 26 % 2 ^ 12) (omega arith);
  z = signed_bits-fits (2 ^ 25) (word % 2 ^ 26) (omega arith);
}

pub pack-unpack : (word : ℕ) → word < 2 ^ 64 → pack (unpack word) ≡ word
pack-unpack word below =
    let x = low_bits-signed (2 ^ 25) (word / 2 ^ 38) (omega arith) in
    let y = low_bits-signed (2 ^ 11) (word / 2 ^ 26 % 2 ^ 12) (omega arith) in
    let z = low_bits-signed (2 ^ 25) (word % 2 ^ 26) (omega arith) in
    omega (arith, x, y, z)

pub unpack-pack : (cell : Cell) → FitsCell cell → unpack (pack cell) ≡ cell
unpack-pack cell fits =
    let x = low_bits-below (2 ^ 25) cell.x fits.x in
    let y = low_bits-below (2 ^ 11) cell.y fits.y in
    let z = low_bits-below (2 ^ 25) cell.z fits.z in
    let at_x : pack cell / 2 ^ 38 ≡ low_bits (2 ^ 25) cell.x = omega (arith, x, y, z) in
    let at_y : pack cell / 2 ^ 26 % 2 ^ 12 ≡ low_bits (2 ^ 11) cell.y = omega (arith, x, y, z) in
    let at_z : pack cell % 2 ^ 26 ≡ low_bits (2 ^ 25) cell.z = omega (arith, x, y, z) in
    rw (
      at_x,
      at_y,
      at_z,
      signed_bits-low (2 ^ 25) cell.x fits.x,
      signed_bits-low (2 ^ 11) cell.y
          fits.y,
      signed_bits-low (2 ^ 25) cell.z fits.z,
    ) refl

pub cell_view : IsView {A = ℕ} (λ n. n < 2 ^ 64) FitsCell unpack pack
cell_view = record { made = unpack-fits; again = pack-unpack; same = unpack-pack }
