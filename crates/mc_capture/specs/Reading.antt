-- What reading a capture finds: its head, records, its end, or bytes that are none of these, with
-- their place (rules of this project). A place is counted from the capture's first byte.
use Rattle.std.specs.Prelude.{◌≡◌, ◌≢◌, ℕ, ◌+◌, ◌-◌, ◌^◌, ◌<◌, ◌≤◌, List, [], ◌∷◌, ◌++◌, length, min}
use Rattle.std.specs.Prelude.{Option, Some, None}
use Rattle.mc_wire.specs.Count.{Rose}
use Rattle.mc_wire.specs.Stream.{Consumes, IsAtEnd}
use Rattle.mc_capture.specs.declared.fault.CaptureKind.{CaptureKind}
use Rattle.mc_capture.specs.declared.fault.CaptureKind.TheVariants.{BadHead, BadKind, Short, TooLong}
use Rattle.mc_capture.specs.declared.fault.CaptureFault.{CaptureFault}
use Rattle.mc_capture.specs.declared.fault.CaptureEnd.{CaptureEnd}
use Rattle.mc_capture.specs.declared.fault.CaptureEnd.TheVariants as ends
use Rattle.mc_capture.specs.declared.record.Record.{Record}
use Rattle.mc_capture.specs.declared.record.TheConstants.{KINDS}
use Rattle.mc_capture.specs.Grammar.{IsRecord, capture_head, heading, most_bytes, record_bytes}

-- a place as it is kept, in 64 bits
abbrev pub kept_place : ℕ → ℕ
kept_place place = min place (2 ^ 64 - 1)

-- ---- what is wrong with bytes

-- bytes that begin as a record does, and end inside it
pub data IsCut (bytes : List ℕ) : Type 0 where
  -- inside its first nine bytes
  in_heading : (kind : ℕ) (more : List ℕ) → bytes ≡ kind ∷ more → kind < KINDS →
      length bytes < 9 → IsCut bytes
  -- inside the bytes that it carries
  in_bytes : (kind connection size : ℕ) (carried : List ℕ) → kind < KINDS →
      size ≤ most_bytes kind → bytes ≡ heading kind connection size ++ carried →
      length carried < size → IsCut bytes

-- bytes that begin with no record, whatever follows them (nothing does, where they are cut), and
-- how many of them stand before what is wrong
abbrev pub IsWrong : List ℕ → CaptureKind → ℕ → Type 0
IsWrong bytes BadHead before = ⊥
IsWrong bytes (BadKind kind) before =
    (more : List ℕ) × (bytes ≡ kind ∷ more) × (KINDS ≤ kind) × (before ≡ 0)
IsWrong bytes Short before = IsCut bytes × (before ≡ 0)
IsWrong bytes (TooLong size) before = (kind : ℕ) × (connection : ℕ) × (kind < KINDS)
    × (most_bytes kind < size) × (bytes ≡ heading kind connection size) × (before ≡ 5)

-- the fault of bytes that stand at a place
pub record IsFaultOf (fault : CaptureFault) (at : ℕ) (bytes : List ℕ) : Type 0 where
  pub before : ℕ
  pub wrong : IsWrong bytes fault.kind before
  pub place : fault.at ≡ kept_place (at + before)

-- ---- what a call finds, by what was left in the source before it and what is left after it

-- a record, or the end of the source
abbrev pub Finds : Option Record → Option (List ℕ) → Option (List ℕ) → Type 0
Finds None old new = Consumes old new [] × IsAtEnd new
Finds (Some r) old new = IsRecord r × Consumes old new (record_bytes r)

abbrev pub found_len : Option Record → ℕ
found_len None = 0
found_len (Some r) = length (record_bytes r)

-- bytes that begin with no record, at a place
pub record FindsWrong (fault : CaptureFault) (at : ℕ) (old new : Option (List ℕ)) : Type 0 where
  pub bytes : List ℕ
  pub consumed : Consumes old new bytes
  pub fault_of : IsFaultOf fault at bytes
  pub end : fault.kind ≡ Short → IsAtEnd new

-- why no record was read at a place, also by how many faults the source counted before and after
abbrev pub EndsSo : CaptureEnd → ℕ → Option (List ℕ) → Option (List ℕ) → ℕ → ℕ → Type 0
EndsSo (ends.Bad fault) at old new was is = FindsWrong fault at old new
EndsSo ends.Read at old new was is = Rose was is
EndsSo ends.Write at old new was is = ⊥
EndsSo ends.NoMemory at old new was is = Unit {0}

-- bytes that a capture doesn't begin with: eight, or fewer that are all
pub record FindsNoHead (fault : CaptureFault) (old new : Option (List ℕ)) : Type 0 where
  pub kind : fault.kind ≡ BadHead
  pub at : fault.at ≡ 0
  pub bytes : List ℕ
  pub consumed : Consumes old new bytes
  pub differ : bytes ≢ capture_head
  pub size : length bytes ≤ 8
  pub end : length bytes < 8 → IsAtEnd new

-- why no head was read
abbrev pub EndsHead : CaptureEnd → Option (List ℕ) → Option (List ℕ) → ℕ → ℕ → Type 0
EndsHead (ends.Bad fault) old new was is = FindsNoHead fault old new
EndsHead ends.Read old new was is = Rose was is
EndsHead ends.Write old new was is = ⊥
EndsHead ends.NoMemory old new was is = ⊥
