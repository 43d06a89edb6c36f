-- Signed numbers, spelled as their two's complement. (The page 'Data types' of wiki.vg for protocol
-- 47.)
use Rattle.std.specs.Prelude.{ℕ, ℤ, List, FitsSigned}
use Rattle.std.specs.Int.{Width, cast_signed, cast_unsigned}
use Rattle.mc_bytes.specs.Format.{Format}
use Rattle.mc_bytes.specs.Combine.{via}
use Rattle.mc_bytes.specs.NumberLaws.{IsWide}
use Rattle.mc_bytes.specs.Numbers.{number}
use Rattle.mc_bytes.specs.SignedLaws.{signed_view}
pub use Rattle.mc_bytes.specs.SignedLaws.{signed_fits}

-- a signed number
abbrev pub signed : {Rest : List ℕ → Type 0} (w : Width) → IsWide w → Format Rest ℤ
signed {Rest} w wide =
    via (number w wide) (FitsSigned w) (cast_signed w) (cast_unsigned w) (signed_view w)
