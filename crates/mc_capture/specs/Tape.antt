-- What a lobby that is taped writes, and how far that is written (rules of this project): the head
-- of a capture, and then a record of each entry of the log but stalls and the end.
use Rattle.std.specs.Prelude.{◌≡◌, ℕ, ◌+◌, ◌-◌, ◌^◌, Option, List, [], ◌++◌, length}
use Rattle.std.specs.Prelude.{take, min}
use Rattle.std.specs.List.{flat_map}
use Rattle.mc_wire.specs.declared.log.LogEntry.{LogEntry}
use Rattle.mc_wire.specs.declared.log.LogEntry.TheVariants.{Joined, Came, Left, Ticked, Ended, Put}
use Rattle.mc_wire.specs.declared.log.LogEntry.TheVariants.{Stalled, Broke, Closed}
use Rattle.mc_wire.specs.Count.{Rose, StandsOrRises, raised}
use Rattle.mc_wire.specs.Stream.{Grows}
use Rattle.mc_wire.specs.LobbyCounts.{LobbyCounts}
use Rattle.mc_capture.specs.declared.tape_state.TapeState.{TapeState}
use Rattle.mc_capture.specs.declared.tape_state.TapeState.TheVariants as states
use Rattle.mc_capture.specs.Grammar.{record_with, capture_head}

-- ---- a log as a capture

abbrev pub entry_bytes : LogEntry → List ℕ
entry_bytes (Joined k) = record_with 0 k []
entry_bytes (Came k bytes) = record_with 1 k bytes
entry_bytes (Left k) = record_with 2 k []
entry_bytes Ticked = record_with 3 0 []
entry_bytes (Put k bytes) = record_with 4 k bytes
entry_bytes (Broke k) = record_with 5 k []
entry_bytes (Closed k) = record_with 6 k []
entry_bytes (Stalled k) = []
entry_bytes Ended = []

-- how many bytes the record of an entry carries
abbrev pub carried_by : LogEntry → ℕ
carried_by (Came k bytes) = length bytes
carried_by (Put k bytes) = length bytes
carried_by other = 0

abbrev pub tape : List LogEntry → List ℕ
tape log = capture_head ++ flat_map entry_bytes log

-- ---- one call

-- how far a tape is, and what its sink holds and how many faults that has counted
pub record TapeMark : Type 0 where
  pub state : TapeState
  pub held : Option (List ℕ)
  pub faults : ℕ

-- all these bytes were written, or a first part of them and the sink failed; a sink that failed
-- before was left alone
abbrev pub WritesFrom : TapeState → TapeState → TapeMark → TapeMark → List ℕ → Type 0
WritesFrom states.Failed states.Failed old new bytes =
    (new.held ≡ old.held) × (new.faults ≡ old.faults)
WritesFrom states.Failed other old new bytes = ⊥
WritesFrom before states.Failed old new bytes =
    ((n : ℕ) × Grows old.held new.held (take n bytes)) × Rose old.faults new.faults
    × StandsOrRises old.faults new.faults
WritesFrom before states.Written old new bytes =
    Grows old.held new.held bytes × StandsOrRises old.faults new.faults
WritesFrom states.Blank states.Blank old new bytes =
    (bytes ≡ []) × (new.held ≡ old.held) × (new.faults ≡ old.faults)
WritesFrom states.Written states.Blank old new bytes = ⊥

abbrev pub Writes : TapeMark → TapeMark → List ℕ → Type 0
Writes old new bytes = WritesFrom old.state new.state old new bytes

-- what listening writes: the head, the first time
abbrev pub head_behind : TapeState → List ℕ
head_behind states.Blank = capture_head
head_behind other = []

-- the calls that were answered with a failure by the tape itself, after one more in this state
abbrev pub own_after : TapeState → ℕ → ℕ
own_after states.Failed count = raised count
own_after other count = count

-- what the lobby counted, with those calls among the faults, and each held to 64 bits
abbrev pub counts_with : ℕ → LobbyCounts → LobbyCounts
counts_with own counts = record {
  faults = min (counts.faults + own) (2 ^ 64 - 1);
  stalls = min counts.stalls (2 ^ 64 - 1);
  breaks = min counts.breaks (2 ^ 64 - 1);
}
