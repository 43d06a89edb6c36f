-- Two's complement and back: laws of signed numbers.
use Rattle.std.specs.Prelude.{ℕ, ℤ, ◌<◌, ◌^◌, FitsSigned}
use Rattle.std.specs.Int.{Width, cast_signed, cast_unsigned}
use mir.Val.{bits}
use Rattle.std.proofs.Math.Facts.{sfits_to_z, Fits-of_z}
use Rattle.std.proofs.lemmas.Int.{of_z-to_z, to_z-of_z}
use Rattle.mc_bytes.specs.CombineLaws.{IsView}

pub signed_view : (w : Width)
    → IsView (λ (n : ℕ). n < 2 ^ bits w) (FitsSigned w) (cast_signed w) (cast_unsigned w)
signed_view w = record {
  made = λ n lt. sfits_to_z {w = w} {n = n} (record { fits = lt });
  again = λ n lt. of_z-to_z w n lt;
  same = λ z fits. to_z-of_z w z fits;
}

-- what fits as a signed number has a spelling
pub signed_fits : (w : Width) (z : ℤ) → FitsSigned w z
    → FitsSigned w z × (cast_unsigned w z < 2 ^ bits w)
signed_fits w z fits = (fits, (Fits-of_z fits).fits)
