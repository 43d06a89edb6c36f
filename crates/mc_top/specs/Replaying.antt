-- What playing events makes of a server, piece by piece, and what it writes.
use Rattle.std.specs.Prelude.{◌≡◌, ℕ, ◌<◌, ◌≤◌, Bool, true, false, List, [], ◌∷◌, ◌++◌, length}
use Rattle.std.specs.Prelude.{take, Option, codes, decimal, if◌then◌else◌}
use Rattle.std.specs.List.{sum_by}
use Rattle.hex.specs.Hex.{encode_lower}
use Rattle.mc_wire.specs.Stream.{Grows}
use Rattle.mc_model.specs.Step.{Event, took, forgot, step}
use Rattle.mc_model.specs.World.{World}
use Rattle.mc_model.specs.Run.{owed_in}
use Rattle.mc_events.specs.declared.input.Input.{Input}
use Rattle.mc_events.specs.declared.input.Input.TheVariants.{Tick}
use Rattle.mc_events.specs.Served.{ServerValue}
use Rattle.mc_events.specs.Stands.{Stands}
use Rattle.mc_events.specs.Asking.{is_done_in}
use Rattle.mc_server.specs.Minded.{ServedValue, StandsFor}
use Rattle.mc_measure.specs.Settling.{forgotten, settled_world, taken}
use Rattle.mc_words.specs.declared.script_line.ScriptEvent.{ScriptEvent}
use Rattle.mc_words.specs.declared.script_line.ScriptEvent.TheVariants.{Ticks}
use Rattle.mc_text.specs.Passes.{Passes}
use Rattle.mc_top.specs.ReplayText.{replay_text}

-- ---- one connection after an event

-- its line of bytes, where there are any
abbrev pub sent_by : ℕ → List ℕ → List ℕ
sent_by k [] = []
sent_by k (b ∷ bytes) =
    codes "sent " ++ decimal k ++ codes " " ++ encode_lower (b ∷ bytes) ++ 10 ∷ []

-- its first bytes were taken and passed on as hex, or there were none
abbrev pub TakesFront : ℕ → World → ServerValue → Option (List ℕ) → Option (List ℕ) → List ℕ →
    List ℕ → Bool → Type 0
TakesFront k w server held held' old new false =
    (owed_in k w ≡ []) × Stands server w × Passes held held' old [] new []
TakesFront k w server held held' old new true =
    (n : ℕ) × (0 < n) × (n ≤ length (owed_in k w)) × Stands server (step w (took k n)).world
    × Passes held held' old (encode_lower (take n (owed_in k w))) new []

-- the line of one that is closed
abbrev pub shut_by : ℕ → Bool → List ℕ
shut_by k false = []
shut_by k true = codes "shut " ++ decimal k ++ 10 ∷ []

-- ---- some connections, one after another

-- what is written at each of some connections, which a change goes through
abbrev pub each_line : (ℕ → World → World) → (ℕ → World → List ℕ) → List ℕ → World → List ℕ
each_line change line [] w = []
each_line change line (k ∷ ks) w = line k w ++ each_line change line ks (change k w)

abbrev pub sent_in : ℕ → World → List ℕ
sent_in k w = sent_by k (owed_in k w)

abbrev pub shut_in : ℕ → World → List ℕ
shut_in k w = shut_by k (is_done_in k w)

abbrev pub all_sent : List ℕ → World → List ℕ
all_sent ks w = each_line taken sent_in ks w

abbrev pub all_shut : List ℕ → World → List ℕ
all_shut ks w = each_line forgotten shut_in ks w

-- ---- events

-- the server stands with its minds for the world after events, and their text was written
pub record HasPlayed (events : List Event) (w : World) (served : ServedValue)
    (held held' : Option (List ℕ)) : Type 0 where
  pub stands : StandsFor served (settled_world w events)
  pub wrote : Grows held held' (replay_text w events)

-- some first part of the text of events was written
pub record HasStopped (events : List Event) (w : World)
    (held held' : Option (List ℕ)) : Type 0 where
  pub len : ℕ
  pub wrote : Grows held held' (take len (replay_text w events))

-- how many ticks an input is, a line says, and all lines say
abbrev pub input_ticks : Input → ℕ
input_ticks Tick = 1
input_ticks other = 0

abbrev pub line_ticks : ScriptEvent → ℕ
line_ticks (Ticks n) = n
line_ticks other = 0

abbrev pub ticks_of : List ScriptEvent → ℕ
ticks_of events = sum_by line_ticks events
