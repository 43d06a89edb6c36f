-- What a taped lobby began with, kept for contracts alone, and what holds of it since then (rules
-- of this project).
use Rattle.std.specs.Prelude.{◌≡◌, ℕ, ◌-◌, Option, Some, None, List, []}
use Rattle.std.specs.Prelude.{◌++◌, length, take, drop}
use Rattle.mc_wire.specs.declared.log.LogEntry.{LogEntry}
use Rattle.mc_wire.specs.Count.{Rose, StandsOrRises}
use Rattle.mc_wire.specs.LobbyTold.{LobbyTold}
use Rattle.mc_wire.specs.LobbyCounts.{LobbyCounts, no_counts}
use Rattle.mc_capture.specs.declared.tape_state.TapeState.{TapeState}
use Rattle.mc_capture.specs.declared.tape_state.TapeState.TheVariants as states
use Rattle.mc_capture.specs.declared.taped.Taped.{Taped}
use Rattle.mc_capture.specs.Tape.{TapeMark, tape}

-- the names of its references to the lobby and the sink, what these told, and what they had counted
pub record TapeStart : Type 0 where
  pub lobby : ℕ
  pub sink : ℕ
  pub told : Option LobbyTold
  pub counts : LobbyCounts
  pub held : Option (List ℕ)
  pub faults : ℕ

-- that of a taped lobby as it is
abbrev pub start_of : {L O : Type 0} → (L → Option LobbyTold) → (L → LobbyCounts) →
    (O → Option (List ℕ)) → (O → ℕ) → Taped L O → TapeStart
start_of told counts held faults taped = record {
  lobby = taped.lobby.ghost_name;
  sink = taped.out.ghost_name;
  told = told taped.lobby.now;
  counts = counts taped.lobby.now;
  held = held taped.out.now;
  faults = faults taped.out.now;
}

-- none
abbrev pub no_start : TapeStart
no_start = record {
  lobby = 0;
  sink = 0;
  told = None;
  counts = no_counts;
  held = None;
  faults = 0;
}

-- what was added to a log
abbrev pub added : LobbyTold → LobbyTold → List LogEntry
added first now = drop (length first.log) now.log

-- so much of these bytes is written in this state, where so many are there
abbrev pub written : TapeState → List ℕ → ℕ → List ℕ
written states.Blank bytes count = []
written states.Written bytes count = bytes
written states.Failed bytes count = take count bytes

-- The log was added to, and behind what a sink held stands the tape of that, or a first part of it
-- where it failed. Nothing is written until a port is told, and nothing was added to the log then.
abbrev pub IsTapeOf : LobbyTold → LobbyTold → TapeState → List ℕ → List ℕ → Type 0
IsTapeOf a b state xs ys = (b.log ≡ a.log ++ added a b)
    × (state ≡ states.Blank → (added a b ≡ []) × (b.ports ≡ a.ports))
    × (ys ≡ xs ++ written state (tape (added a b)) (length ys - length xs))

-- so it is since a start, where the lobby and the sink still tell theirs
abbrev pub IsTape : TapeStart → Option LobbyTold → TapeMark → Type 0
IsTape start told now = (a b : LobbyTold) (xs ys : List ℕ) → start.told ≡ Some a →
    told ≡ Some b → start.held ≡ Some xs → now.held ≡ Some ys → IsTapeOf a b now.state xs ys

-- the sink's faults rose where it failed
abbrev pub FaultsSince : TapeStart → TapeMark → Type 0
FaultsSince start now = (now.state ≡ states.Failed → Rose start.faults now.faults)
    × StandsOrRises start.faults now.faults
