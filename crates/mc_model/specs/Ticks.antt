-- Ages: which beat and which age a client is told at one, and the time of day. Rules of this
-- project.
use Rattle.std.specs.Prelude.{ℕ, ◌+◌, ◌-◌, ◌/◌, ◌%◌, min}
use Rattle.std.specs.Int.{int_rem_euclid}
use lib.IntN.{ℤ}
use Rattle.mc_model.specs.declared.ticks.TheConstants.{AGE_MAX, BEAT_TICKS, SHOWN_TICKS, DAY_TICKS}

-- a tick later; at the most it stands still
abbrev pub older : ℕ → ℕ
older age = min (age + 1) AGE_MAX

-- the number of the beat
abbrev pub beat_at : ℕ → ℕ
beat_at age = age / BEAT_TICKS

-- the age that clients are told, which moves on by several ticks at once
abbrev pub shown_age : ℕ → ℕ
shown_age age = age - age % SHOWN_TICKS

abbrev pub time_of_day : ℤ → ℤ
time_of_day age = int_rem_euclid age DAY_TICKS
