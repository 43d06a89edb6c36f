-- What is shown of the bytes of a connection, as they come: a line for each frame as it becomes
-- whole, and one for the first fault of a way, which is silent from then on (rules of this project,
-- over the frames and packets of protocol 47).
use Rattle.std.specs.Prelude.{ℕ, List, [], ◌∷◌, ◌++◌, Option, Some, None, Ok, Err}
use Rattle.mc_bytes.specs.Reading.{Field}
use Rattle.mc_frame.specs.declared.fault.FrameFault.{FrameFault}
use Rattle.mc_frame.specs.Faults.{fault_of}
use Rattle.mc_frame.specs.Frame.{frame_read}
use Rattle.mc_capture.specs.declared.states.Way.{Way}
use Rattle.mc_capture.specs.declared.states.Way.TheVariants.{Up, Down}
use Rattle.mc_capture.specs.declared.states.States.{States}
use Rattle.mc_capture.specs.declared.states.Turn.{Turn}
use Rattle.mc_capture.specs.Frames.{first_states, state_of, turn_of, turned}
use Rattle.mc_capture.specs.FrameLines.{fault_line, frame_line}

-- ---- one way of a connection

-- how far both ways have come, and the bytes of this one that are no whole frame yet; None where it
-- is silent
pub record Hearing : Type 0 where
  pub states : States
  pub waits : Option (List ℕ)

-- some lines, and then others with what is heard from then on
abbrev pub then_heard : List ℕ × Hearing → (Hearing → List ℕ × Hearing) → List ℕ × Hearing
then_heard first more = let later = more first.1 in (first.0 ++ later.0, later.1)

-- nothing is shown
abbrev pub unheard : Hearing → List ℕ × Hearing
unheard now = ([], now)

-- a fault: the way is silent from then on
abbrev pub on_fault : ℕ → Way → States → List ℕ × Hearing
on_fault k way states = (fault_line k way, record { states = states; waits = None })

-- a whole frame, by what it changes
abbrev pub on_turn : ℕ → Way → States → List ℕ → Option Turn → List ℕ × Hearing
on_turn k way states frame None = on_fault k way states
on_turn k way states frame (Some turn) = (
  frame_line k way (state_of way states) frame,
  record { states = turned turn way states; waits = Some [] },
)

abbrev pub on_frame : ℕ → Way → States → List ℕ → List ℕ × Hearing
on_frame k way states frame =
    on_turn k way states frame (turn_of way (state_of way states) frame)

-- bytes that are no whole frame: a part of one, or a fault
abbrev pub on_part : ℕ → Way → States → List ℕ → Option FrameFault → List ℕ × Hearing
on_part k way states bytes None = unheard (record { states = states; waits = Some bytes })
on_part k way states bytes (Some fault) = on_fault k way states

-- what reading a frame from bytes gave
abbrev pub on_read : ℕ → Way → States → List ℕ → Field (List ℕ) → List ℕ × Hearing
on_read k way states bytes (Ok x) = on_frame k way states x.0
on_read k way states bytes (Err stop) = on_part k way states bytes (fault_of stop.kind 0)

-- one byte more
abbrev pub on_byte : ℕ → Way → States → Option (List ℕ) → ℕ → List ℕ × Hearing
on_byte k way states None b = unheard (record { states = states; waits = None })
on_byte k way states (Some bytes) b =
    on_read k way states (bytes ++ b ∷ []) (frame_read (bytes ++ b ∷ []))

-- bytes, one after another
abbrev pub on_bytes : ℕ → Way → Hearing → List ℕ → List ℕ × Hearing
on_bytes k way now [] = unheard now
on_bytes k way now (b ∷ bytes) =
    then_heard (on_byte k way now.states now.waits b) (λ next. on_bytes k way next bytes)

-- ---- both ways

pub record Talk : Type 0 where
  pub states : States
  pub up : Option (List ℕ)
  pub down : Option (List ℕ)

-- nothing came yet
abbrev pub new_talk : Talk
new_talk = record { states = first_states; up = Some []; down = Some [] }

-- what is heard of one way
abbrev pub hearing_of : Way → Talk → Hearing
hearing_of Up talk = record { states = talk.states; waits = talk.up }
hearing_of Down talk = record { states = talk.states; waits = talk.down }

abbrev pub with_hearing : Way → Hearing → Talk → Talk
with_hearing Up now talk = record talk { states = now.states; up = now.waits }
with_hearing Down now talk = record talk { states = now.states; down = now.waits }

-- bytes of one way: their lines, and the connection after them
abbrev pub heard_lines : ℕ → Way → Talk → List ℕ → List ℕ
heard_lines k way talk bytes = (on_bytes k way (hearing_of way talk) bytes).0

abbrev pub talk_after : ℕ → Way → Talk → List ℕ → Talk
talk_after k way talk bytes =
    with_hearing way (on_bytes k way (hearing_of way talk) bytes).1 talk
