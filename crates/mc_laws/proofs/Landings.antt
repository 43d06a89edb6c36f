-- Where a player comes to be that goes somewhere, and a place in the range of what moves, is one
-- that can be told.
use Rattle.std.proofs.Common.{◌≡◌, ℕ, suc, ◌<◌, ◌≤◌, Bool, true, false, subst, arith}
use Rattle.std.proofs.lemmas.Bool.{and_parts}
use Rattle.std.proofs.lemmas.Bool.Decides.{nat_tests}
use Rattle.std.specs.Prelude.{unsigned_abs, Option, Some, None, if◌then◌else◌}
use Rattle.std.specs.Int.{int_rem_euclid}
use Rattle.std.specs.Option.{option_and_then}
use lib.IntN.{ℤ, pos, negsuc}
use Rattle.mc_fields.specs.declared.position.Spot.{Spot}
use Rattle.mc_entities.specs.Shift.{is_between, is_inside}
use Rattle.mc_model.specs.Numbers.{fixed_of, turn_of}
use Rattle.mc_model.specs.Movement.{both, moved, turned}
use Rattle.mc_model.specs.Fitting.{SpotFits}
use Rattle.mc_model.proofs.Maps.Options.{some_is}
use Rattle.mc_model.proofs.ThingFacts.{rest_below}

-- ---- turns

-- a spot with a look within one turn
pub record IsTurned (spot : Spot) : Type 0 where
  pub yaw : spot.yaw < 256
  pub pitch : spot.pitch < 256

pub spot_turned : (spot : Spot) → SpotFits spot → IsTurned spot
spot_turned spot fits = record { yaw = fits.yaw; pitch = fits.pitch }

-- what is within a range is not large
within_small : (low high : ℕ) (n : ℤ) → suc low ≤ high →
    is_between (negsuc low) (pos high) n ≡ true → unsigned_abs n ≤ high
within_small low high n le t = grind (arith, nat_tests)

-- a place in the range of players fits
pub inside_fits : (spot : Spot) → IsTurned spot → is_inside spot ≡ true → SpotFits spot
inside_fits spot is t = grind (arith, nat_tests, and_parts, within_small)

-- a turn that was worked out is within one turn
turn_low : (p a : ℕ) → turn_of p ≡ Some a → a < 256
unfolding turn_of
turn_low p a e = step _ _ e
  where
    step : (t : Bool) (z : ℤ) → (if t then None else
        Some (unsigned_abs (int_rem_euclid z (pos 256)))) ≡ Some a → a < 256
    step true z e = absurd cc
    step false z e = let P : ℕ → Type 0 = λ n. n < 256 in
        subst P (some_is _ _ e) (rest_below z 256 (omega arith))

-- so is a look that was worked out
turned_so : (spot to : Spot) (a b : Option ℕ) → ((n : ℕ) → a ≡ Some n → n < 256) →
    ((n : ℕ) → b ≡ Some n → n < 256)
    → both (λ (about up : ℕ). record spot { yaw = about; pitch = up }) a b ≡ Some to → IsTurned to
turned_so spot to a b low high e = grind (arith, nat_tests, some_is)

-- a player that looks
pub turned_turned : (spot to : Spot) (yaw pitch : ℕ) → turned spot yaw pitch ≡ Some to → IsTurned to
turned_turned spot to yaw pitch e = turned_so spot to (turn_of yaw) (turn_of pitch) (turn_low yaw)
    (turn_low pitch) e

-- a place keeps the look
moved_so : (spot to : Spot) (a b c : Option ℤ) → IsTurned spot
    → option_and_then (λ (east : ℤ). both
    (λ (up south : ℤ). record spot { x = east; y = up; z = south }) b c) a ≡ Some to
    → IsTurned to
moved_so spot to a b c is e = grind (arith, nat_tests, some_is)

-- a player that moves
pub moved_turned : (spot to : Spot) (x y z : ℕ) → IsTurned spot → moved spot x y z ≡ Some to →
    IsTurned to
moved_turned spot to x y z is e = moved_so spot to (fixed_of x) (fixed_of y) (fixed_of z) is e

-- a player that does both
pub both_turned : (o : Option Spot) (to : Spot) (yaw pitch : ℕ) →
    option_and_then (λ (spot : Spot). turned spot yaw pitch) o ≡ Some to
    → IsTurned to
both_turned None to yaw pitch e = absurd cc
both_turned (Some spot) to yaw pitch e = turned_turned spot to yaw pitch e
