-- The packet that says a player's place. Each number that a spot holds has a pattern.
use Rattle.std.proofs.Common.{◌≡◌, ℕ, ◌^◌, ◌<◌, refl, arith}
use Rattle.std.proofs.lemmas.Bool.Decides.{nat_tests}
use Rattle.std.specs.Prelude.{unsigned_abs}
use Rattle.std.specs.Int.{w32}
use Rattle.std.proofs.lemmas.Int.{ints, to_z-of_z}
use mir.Val.{SFits, to_z, of_z}
use lib.IntN.{ℤ, pos, negsuc}
use Rattle.mc_fields.specs.Pattern.{Represents}
use Rattle.mc_fields.specs.declared.position.Spot.{Spot}
use Rattle.mc_packets.specs.declared.down.Down.TheVariants.{PositionLook}
use Rattle.mc_model.specs.Numbers.{pattern_of, degrees_of}
use Rattle.mc_model.specs.Opening.{placing}
use Rattle.mc_model.proofs.PatternFacts.{pattern_one}
use Rattle.mc_model.proofs.FitsNumbers.{pattern_fits, degrees_fit}
use Rattle.mc_model.proofs.FitsPlay.{place_clear}
use Rattle.mc_sending.specs.Sending.{IsClear}

small : (z : ℤ) → SFits w32 z → unsigned_abs z < 2 ^ 32
small (pos n) fits = let f = fits.sfits in omega (arith, ints, f)
small (negsuc n) fits = let f = fits.sfits in omega (arith, ints, f)

-- the pattern of a number that was passed is the one that is worked out
pub pattern_at : (n : ℤ) (p : ℕ) → SFits w32 n → p < 2 ^ 64 → (to_z w32 (of_z w32 n) ≡ pos 0 →
    p ≡ 0)
    → Represents (to_z w32 (of_z w32 n)) p → p ≡ pattern_of n
pattern_at n p range fits none stands = grind (arith, nat_tests, to_z-of_z, small, pattern_one)

-- the numbers of a spot, as its fields hold them
pub record IsHeld (spot : Spot) : Type 0 where
  pub x : SFits w32 spot.x
  pub y : SFits w32 spot.y
  pub z : SFits w32 spot.z
  pub yaw : spot.yaw < 256
  pub pitch : spot.pitch < 256

-- each place can be sent
pub placing_clear : (spot : Spot) → IsHeld spot → IsClear (placing spot)
placing_clear spot at = grind (arith, nat_tests, place_clear, pattern_fits, small, degrees_fit)

pub placing_is : (spot : Spot) (x y z yaw pitch : ℕ) → x ≡ pattern_of spot.x →
    y ≡ pattern_of spot.y → z ≡ pattern_of spot.z → yaw ≡ degrees_of spot.yaw →
    pitch ≡ degrees_of spot.pitch → PositionLook x y z yaw pitch (pos 0) ≡ placing spot
placing_is spot x y z yaw pitch a b c d e = rw (a, b, c, d, e) refl
