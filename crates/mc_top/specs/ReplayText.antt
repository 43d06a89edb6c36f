-- What `replay` writes for a list of events, and the log of all that happens. Rules of this
-- project: after each event every connection takes all that it is owed, and those that are closed
-- are forgotten.
use Rattle.std.specs.Prelude.{◌≡◌, ◌≢◌, ℕ, ◌==◌, nat_lt, Bool, List, [], ◌∷◌, ◌++◌, length, map}
use Rattle.std.specs.Prelude.{replicate, Some, codes, decimal, if◌then◌else◌}
use Rattle.std.specs.List.{filter, flat_map}
use Rattle.std.specs.FinMap.{entries}
use Rattle.hex.specs.Hex.{encode_lower}
use Rattle.mc_model.specs.declared.cause.Cause.TheVariants.{Backlog}
use Rattle.mc_model.specs.Step.{Event, joined, came, left, ticked, took, forgot, step}
use Rattle.mc_model.specs.Stages.{is_closed}
use Rattle.mc_model.specs.Link.{Link}
use Rattle.mc_model.specs.Run.{history, stream, taken, why}
use Rattle.mc_model.specs.World.{World}
use Rattle.mc_measure.specs.Settling.{is_shut, owes, settled, settled_log}
use Rattle.mc_words.specs.declared.script_line.ScriptEvent.{ScriptEvent}
use Rattle.mc_words.specs.declared.script_line.ScriptEvent.TheVariants.{Joined, Came, Gone, Ticks}

-- ---- what is told after an event

-- a connection took these bytes; or it was closed, and is forgotten
pub data Telling : Type 0 where
  tells_sent : ℕ → List ℕ → Telling
  tells_shut : ℕ → Telling

-- its line
abbrev pub telling_line : Telling → List ℕ
telling_line (tells_sent k bytes) =
    codes "sent " ++ decimal k ++ codes " " ++ encode_lower bytes ++ 10 ∷ []
telling_line (tells_shut k) = codes "shut " ++ decimal k ++ 10 ∷ []

-- each that is owed bytes, in rising numbers, and then each that is closed
unfoldable pub tellings : World → List Telling
tellings w =
    map (λ (e : ℕ × Link). tells_sent e.0 e.1.owed) (filter owes (entries w.links))
    ++ map (λ (e : ℕ × Link). tells_shut e.0) (filter is_shut (entries w.links))

-- the lines of a world after an event
unfoldable pub lines_after : World → List ℕ
lines_after w = flat_map telling_line (tellings w)

-- ---- all events

abbrev pub replay_text : World → List Event → List ℕ
replay_text w [] = []
replay_text w (e ∷ events) =
    lines_after (step w e).world ++ replay_text (settled (step w e).world) events

-- all that is told
abbrev pub replay_tellings : World → List Event → List Telling
replay_tellings w [] = []
replay_tellings w (e ∷ events) =
    tellings (step w e).world ++ replay_tellings (settled (step w e).world) events

-- ---- what the `sent` lines of one connection tell

abbrev pub sent_for : ℕ → Telling → List ℕ
sent_for k (tells_sent j bytes) = if j == k then bytes else []
sent_for k (tells_shut j) = []

-- the bytes of all `sent k` lines, joined
abbrev pub sent_to : ℕ → List Telling → List ℕ
sent_to k all = flat_map (sent_for k) all

-- What is told of connection k is what it took of all that it was handed: just the bytes that it
-- took in the log, so the first ones of its stream, and all of that unless it was closed as
-- Backlog.
pub record IsToldTaken (k : ℕ) (w : World) (events : List Event) : Type 0 where
  pub is_taken : sent_to k (replay_tellings w events) ≡ taken k w (settled_log w events)
  pub begun : (more : List ℕ) ×
      (stream k w (settled_log w events) ≡ sent_to k (replay_tellings w events) ++ more)
  pub whole : why k w (settled_log w events) ≢ Some Backlog →
      stream k w (settled_log w events) ≡ sent_to k (replay_tellings w events)

-- ---- the events of a script: a line of ticks is so many

abbrev pub line_events : ScriptEvent → List Event
line_events (Joined k) = joined k ∷ []
line_events (Came k bytes) = came k bytes ∷ []
line_events (Gone k) = left k ∷ []
line_events (Ticks n) = replicate n ticked

abbrev pub events_of : List ScriptEvent → List Event
events_of events = flat_map line_events events
