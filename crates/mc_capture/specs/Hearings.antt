-- How what is heard of a way is kept: the bytes that are no whole frame yet are held by a splitter.
use Rattle.std.specs.Prelude.{◌≡◌, List, ℕ, [], Bool, true, false, Option, Some, None}
use Rattle.mc_frame.specs.Cut.{IsPart}
use Rattle.mc_frame.specs.Held.{Splitting}
use Rattle.mc_capture.specs.declared.states.States.{States}
use Rattle.mc_capture.specs.Talks.{Hearing}

-- these bytes are no whole frame
abbrev pub heard_from : States → List ℕ → Hearing
heard_from states bytes = record { states = states; waits = Some bytes }

-- none are
abbrev pub from_front : States → Hearing
from_front states = heard_from states []

-- a way that goes on, or is silent
abbrev pub goes_on : Bool → States → List ℕ → Hearing
goes_on true states bytes = heard_from states bytes
goes_on false states bytes = record { states = states; waits = None }

-- a splitter that holds no whole frame, and met no fault
pub record IsWaiting (s : Splitting) : Type 0 where
  pub fine : s.fault ≡ None
  pub part : IsPart s.held

abbrev pub IsSettled : Option Splitting → Type 0
IsSettled None = Unit {0}
IsSettled (Some s) = IsWaiting s

abbrev pub waiting_bytes : Option Splitting → Option (List ℕ)
waiting_bytes None = None
waiting_bytes (Some s) = Some s.held

abbrev pub waiting_in : States → Option Splitting → Hearing
waiting_in states s = record { states = states; waits = waiting_bytes s }
