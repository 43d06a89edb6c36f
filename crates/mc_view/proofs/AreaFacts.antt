-- A place stands in one of so many columns where it is between their bounds.
use Rattle.std.proofs.Common.{◌≡◌, ◌↔◌, ℕ, ◌≤◌, Bool, FitsSigned, w32, arith}
use Rattle.std.proofs.lemmas.Bool.Decides.{nat_tests}
use Rattle.std.proofs.lemmas.Int.{ints, to_z-of_z}
use Rattle.std.specs.Prelude.{IsTrue, nat_le, unsigned_abs}
use Rattle.std.specs.Int.{int_div_euclid}
use lib.IntN.{ℤ, pos, negsuc, ◌-ℤ◌}
use lib.Signed.{◌≤ℤ◌, ◌<ℤ◌}
use mir.Val.{to_z, of_z}
use Rattle.mc_view.specs.Areas.{IsBound}

-- between the bounds it stands in a column that is near
inside : (x middle low past : ℤ) (d : ℕ) → IsBound middle d low past → low ≤ℤ x → x <ℤ past →
    unsigned_abs (int_div_euclid x (pos 512) -ℤ middle) ≤ d
inside (pos n) middle low past d is above below =
    omega (arith, ints, is.low_is, is.past_is, above, below)
inside (negsuc n) middle low past d is above below =
    omega (arith, ints, is.low_is, is.past_is, above, below)

-- and one that stands in such a column is between them
outside : (x middle low past : ℤ) (d : ℕ) → IsBound middle d low past →
    unsigned_abs (int_div_euclid x (pos 512) -ℤ middle) ≤ d → (low ≤ℤ x) × (x <ℤ past)
outside (pos n) middle low past d is near =
    (omega (arith, ints, is.low_is, near), omega (arith, ints, is.past_is, near))
outside (negsuc n) middle low past d is near =
    (omega (arith, ints, is.low_is, near), omega (arith, ints, is.past_is, near))

decided : (b : Bool) (n d : ℕ) → (IsTrue b → n ≤ d) → (n ≤ d → IsTrue b) → b ≡ nat_le n d
decided b n d to from = grind (arith, nat_tests)

-- the test of bounds, of numbers as the code has them, is that of columns
pub axis : (x middle low past : ℤ) (d : ℕ) (b : Bool) → IsBound middle d low past →
    FitsSigned w32 x → FitsSigned w32 low → FitsSigned w32 past →
    (IsTrue b ↔ (to_z w32 (of_z w32 low) ≤ℤ to_z w32 (of_z w32 x))
    × (to_z w32 (of_z w32 x) <ℤ to_z w32 (of_z w32 past))) →
    b ≡ nat_le (unsigned_abs (int_div_euclid x (pos 512) -ℤ middle)) d
axis x middle low past d b is fits fits_low fits_past test =
    let plain : IsTrue b ↔ (low ≤ℤ x) × (x <ℤ past) =
    rw (to_z-of_z w32 low fits_low, to_z-of_z w32 x fits, to_z-of_z w32 past fits_past) at test in
    decided b (unsigned_abs (int_div_euclid x (pos 512) -ℤ middle)) d
    (λ t. inside x middle low past d is (plain.0 t).0 (plain.0 t).1)
    (λ near. plain.1 (outside x middle low past d is near))
