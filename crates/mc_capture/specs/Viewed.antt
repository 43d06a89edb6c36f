-- What a view of a capture comes to: what was read, how it ended, and what was written (rules of
-- this project).
use Rattle.std.specs.Prelude.{◌≡◌, ℕ, ◌+◌, ◌^◌, ◌<◌, ◌⊎◌, List, [], ◌++◌, length}
use Rattle.std.specs.Prelude.{Option, Some, None}
use Rattle.std.specs.List.{AllByRecursion}
use Rattle.mc_wire.specs.Count.{Rose}
use Rattle.mc_wire.specs.Stream.{Consumes, Grows, IsAtEnd}
use Rattle.mc_capture.specs.declared.fault.CaptureFault.{CaptureFault}
use Rattle.mc_capture.specs.declared.fault.CaptureEnd.{CaptureEnd}
use Rattle.mc_capture.specs.declared.fault.CaptureEnd.TheVariants as ends
use Rattle.mc_capture.specs.declared.record.Record.{Record}
use Rattle.mc_capture.specs.Grammar.{IsRecord, capture_head, records_bytes}
use Rattle.mc_capture.specs.Reading.{FindsNoHead, FindsWrong}
use Rattle.mc_capture.specs.Gathering.{Gathers, WritesPart}
use Rattle.mc_capture.specs.ViewText.{view_text}

-- the number of a connection has four bytes
abbrev pub IsNumbered : Record → Type 0
IsNumbered r = r.connection < 2 ^ 32

-- the head of a capture and some whole records were what was left first, and then what is left now
pub record Begins (old new : Option (List ℕ)) (records : List Record) : Type 0 where
  pub are_records : AllByRecursion IsRecord records
  pub are_numbered : AllByRecursion IsNumbered records
  pub consumed : Consumes old new (capture_head ++ records_bytes records)

-- the place behind them
abbrev pub end_of : List Record → ℕ
end_of records = length capture_head + length (records_bytes records)

-- a capture that has these whole records: nothing is left behind them, or what begins with no
-- record, at its place
abbrev pub EndsAt : Option CaptureFault → ℕ → Option (List ℕ) → Option (List ℕ) → Type 0
EndsAt None at old new = Consumes old new [] × IsAtEnd new
EndsAt (Some fault) at old new = FindsWrong fault at old new

-- how what was left was read: it did not begin with a capture's head, or it did, and then had these
-- records and this end
pub data IsRead (old new : Option (List ℕ)) (records : List Record) (end : Option CaptureFault) :
    Type 0 where
  headless : (fault : CaptureFault) → end ≡ Some fault → records ≡ [] →
      FindsNoHead fault old new → IsRead old new records end
  headed : (behind : Option (List ℕ)) → Begins old behind records →
      EndsAt end (end_of records) behind new → IsRead old new records end

-- all was read, of its text a first part was written, and the rest of that waits
pub record IsShown (end : Option CaptureFault) (old new held held' : Option (List ℕ))
    (waits : List ℕ) : Type 0 where
  pub records : List Record
  pub reads : IsRead old new records end
  pub gathers : Gathers held held' (view_text records) waits

-- all was read, and its text was written
pub record IsViewed (end : Option CaptureFault) (old new held held' : Option (List ℕ)) : Type 0
  where
    pub records : List Record
    pub reads : IsRead old new records end
    pub wrote : Grows held held' (view_text records)

-- some whole records were read, or none, and a first part of their text was written
pub record IsViewedInPart (old held held' : Option (List ℕ)) : Type 0 where
  pub records : List Record
  pub begins : (records ≡ []) ⊎ ((behind : Option (List ℕ)) × Begins old behind records)
  pub wrote : WritesPart held held' (view_text records)

-- why it ended, also by how many faults source and sink counted before and after
pub record Faults : Type 0 where
  pub input : ℕ
  pub out : ℕ

abbrev pub faults_of : ℕ → ℕ → Faults
faults_of input out = record { input = input; out = out }

-- why not all was read: the bytes are no capture from a place on, or a device failed
abbrev pub EndsShown : CaptureEnd → Option (List ℕ) → Option (List ℕ) → Option (List ℕ) →
    Option (List ℕ) → List ℕ → Faults → Faults → Type 0
EndsShown (ends.Bad fault) old new held held' waits was is =
    IsShown (Some fault) old new held held' waits
EndsShown ends.Read old new held held' waits was is = Rose was.input is.input
EndsShown ends.Write old new held held' waits was is = Rose was.out is.out
EndsShown ends.NoMemory old new held held' waits was is = Unit {0}

-- and not all written
abbrev pub EndsView : CaptureEnd → Option (List ℕ) → Option (List ℕ) → Option (List ℕ) →
    Option (List ℕ) → Faults → Faults → Type 0
EndsView (ends.Bad fault) old new held held' was is = IsViewed (Some fault) old new held held'
EndsView ends.Read old new held held' was is = Rose was.input is.input
EndsView ends.Write old new held held' was is = Rose was.out is.out
EndsView ends.NoMemory old new held held' was is = Unit {0}
