-- Where a link to a server stands, and how its answers change that (a rule of this project).
use Rattle.std.specs.Prelude.{ℕ, ◌<◌, ◌≤◌, Bool, true, false, List, length, Result, Ok, Err}
use Rattle.mc_wire.specs.declared.failed.Failed.{Failed}
use Rattle.mc_wire.specs.declared.got.Got.{Got}
use Rattle.mc_wire.specs.declared.got.Got.TheVariants.{Bytes, End, Quiet}
use Rattle.mc_wire.specs.Count.{raised}

-- whether a `connect` answered Ok, whether it has answered End since the last one that did, and how
-- many reads were quiet since the last `connect` or the last bytes, which may fall
pub record LinkStage : Type 0 where
  pub connected : Bool
  pub ended : Bool
  pub quiet_run : ℕ

-- before the first call
abbrev pub unconnected : LinkStage
unconnected = record { connected = false; ended = false; quiet_run = 0 }

-- after a `connect` that answered so
abbrev pub after_connect : Result (Unit {0}) Failed → LinkStage → LinkStage
after_connect (Ok done) stage = record { connected = true; ended = false; quiet_run = 0 }
after_connect (Err error) stage = record stage { quiet_run = 0 }

-- after a read that answered so
abbrev pub after_read : Result Got Failed → LinkStage → LinkStage
after_read (Ok (Bytes n)) stage = record stage { quiet_run = 0 }
after_read (Ok End) stage = record stage { ended = true }
after_read (Ok Quiet) stage = record stage { quiet_run = raised stage.quiet_run }
after_read (Err error) stage = stage

-- bytes that came are one at least, and stand in the buffer
abbrev pub IsGot : Result Got Failed → List ℕ → Type 0
IsGot (Ok (Bytes n)) buffer = (0 < n) × (n ≤ length buffer)
IsGot other buffer = Unit {0}

-- bytes that came are an answer less to give, and no answer is one more
abbrev pub FewerAnswers : Result Got Failed → ℕ → ℕ → Type 0
FewerAnswers (Ok (Bytes n)) old new = new < old
FewerAnswers other old new = new ≤ old
