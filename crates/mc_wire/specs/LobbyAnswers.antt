-- What a lobby's answers mean: their entries in its log, their bounds, and the numbers of
-- connections (rules of this project).
use Rattle.std.specs.Prelude.{ℕ, ◌<◌, ◌≤◌, List, length, take}
use Rattle.mc_wire.specs.declared.answers.Event.{Event}
use Rattle.mc_wire.specs.declared.answers.Event.TheVariants.{Join, Bytes, Gone, Tick, End}
use Rattle.mc_wire.specs.declared.answers.Wrote.{Wrote}
use Rattle.mc_wire.specs.declared.answers.Wrote.TheVariants as writes
use Rattle.mc_wire.specs.declared.log.LogEntry.{LogEntry}
use Rattle.mc_wire.specs.declared.log.LogEntry.TheVariants as entries

-- the entry of an event, with the buffer as it was left
abbrev pub event_entry : Event → List ℕ → LogEntry
event_entry (Join k) buffer = entries.Joined k
event_entry (Bytes k n) buffer = entries.Came k (take n buffer)
event_entry (Gone k) buffer = entries.Left k
event_entry Tick buffer = entries.Ticked
event_entry End buffer = entries.Ended

-- the entry of a write of a piece to a connection
abbrev pub wrote_entry : Wrote → ℕ → List ℕ → LogEntry
wrote_entry (writes.Took n) k piece = entries.Put k (take n piece)
wrote_entry writes.Stalled k piece = entries.Stalled k
wrote_entry writes.Broken k piece = entries.Broke k

-- bytes that came are one at least, and stand in the buffer
abbrev pub IsInBuffer : Event → List ℕ → Type 0
IsInBuffer (Bytes k n) buffer = (0 < n) × (n ≤ length buffer)
IsInBuffer other buffer = Unit {0}

-- of a piece of this size one byte at least is taken, and no more than all
abbrev pub IsInPiece : Wrote → ℕ → Type 0
IsInPiece (writes.Took n) size = (0 < n) × (n ≤ size)
IsInPiece other size = Unit {0}

-- whoever joins has a number from the least one on, which is then above it; it never falls
abbrev pub RaisesLeast : Event → ℕ → ℕ → Type 0
RaisesLeast (Join k) old new = (old ≤ k) × (k < new)
RaisesLeast other old new = old ≤ new
