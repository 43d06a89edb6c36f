-- The packets of the beat and of the age fit.
use Rattle.std.proofs.Common.{ℕ, ◌≤◌, lit<, arith}
use Rattle.std.specs.Prelude.{Option, Some, None}
use Rattle.std.specs.Int.{Width, w32, w64}
use lib.IntN.{ℤ, pos, negsuc}
use mir.Val.{SFits}
use Rattle.mc_packets.specs.declared.down.Down.TheVariants.{KeepAlive, Time}
use Rattle.mc_model.specs.declared.ticks.TheConstants.{AGE_MAX}
use Rattle.mc_model.specs.Packets.{of_play, for_play}
use Rattle.mc_model.specs.Ticks.{time_of_day, beat_at, shown_age}
use Rattle.mc_model.proofs.Decodes.{IsClear, play_clear}
use Rattle.mc_model.proofs.FitsSize.{fields}

-- a number that is told, if one is, fits its field
abbrev pub ToldFits : Width → Option ℤ → Type 0
ToldFits w None = Unit {0}
ToldFits w (Some n) = SFits w n

-- the beat
pub beat_clear : (beat : ℤ) → SFits w32 beat → IsClear for_play (of_play (KeepAlive beat))
beat_clear beat s =
    play_clear (KeepAlive beat) (search fields) (lit< tt)

-- a time of day
day_fits : (age : ℤ) → SFits w64 (time_of_day age)
day_fits (pos n) = record { sfits = omega arith }
day_fits (negsuc n) = record { sfits = omega arith }

-- the age, with the time of day
pub time_clear : (age : ℤ) → SFits w64 age → IsClear for_play (of_play (Time age (time_of_day age)))
time_clear age s =
    let day = day_fits age in
    play_clear (Time age (time_of_day age)) (search fields) (lit< tt)

-- the beat of an age that a world has
pub beat_fits : (age : ℕ) → age ≤ AGE_MAX → SFits w32 (pos (beat_at age))
beat_fits age young = record { sfits = omega (arith, young) }

-- and the age that clients are told at it
pub shown_age_fits : (age : ℕ) → age ≤ AGE_MAX → SFits w64 (pos (shown_age age))
shown_age_fits age young = record { sfits = omega (arith, young) }
