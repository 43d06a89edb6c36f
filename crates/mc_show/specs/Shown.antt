-- What showing a client's world out of a capture comes to: what was read, how it ended, and what
-- was written (rules of this project).
use Rattle.std.specs.Prelude.{◌≡◌, ℕ, List, [], Option, Some, None, ◌⊎◌}
use Rattle.mc_wire.specs.Count.{Rose}
use Rattle.mc_wire.specs.Stream.{Grows}
use Rattle.mc_capture.specs.declared.fault.CaptureEnd.{CaptureEnd}
use Rattle.mc_capture.specs.declared.fault.CaptureEnd.TheVariants as ends
use Rattle.mc_capture.specs.declared.fault.CaptureFault.{CaptureFault}
use Rattle.mc_capture.specs.declared.record.Record.{Record}
use Rattle.mc_capture.specs.Gathering.{WritesPart}
use Rattle.mc_capture.specs.Viewed.{Faults, IsRead}
use Rattle.mc_show.specs.Following.{Followed, followed_after}
use Rattle.mc_show.specs.ShowText.{show_text}

-- all was read, and the text of a client's world was written
pub record ShowsClient (k : ℕ) (old new held held' : Option (List ℕ)) : Type 0 where
  pub records : List Record
  pub reads : IsRead old new records None
  pub wrote : Grows held held' (show_text k records)

-- all was read, and a first part of the text was written
pub record ShowsInPart (k : ℕ) (old new held held' : Option (List ℕ)) : Type 0 where
  pub records : List Record
  pub reads : IsRead old new records None
  pub wrote : WritesPart held held' (show_text k records)

-- the bytes that were read are no capture, from a place on
pub record HasFault (fault : CaptureFault) (old new : Option (List ℕ)) : Type 0 where
  pub records : List Record
  pub reads : IsRead old new records (Some fault)

abbrev pub WritesNothing : Option (List ℕ) → Option (List ℕ) → Type 0
WritesNothing held held' = Grows held held' []

-- Why not all was shown, also by how many faults source and sink counted before and after. What
-- ends it before the end of the capture leaves nothing written.
abbrev pub EndsShow : ℕ → CaptureEnd → Option (List ℕ) → Option (List ℕ) → Option (List ℕ) →
    Option (List ℕ) → Faults → Faults → Type 0
EndsShow k (ends.Bad fault) old new held held' was is =
    HasFault fault old new × WritesNothing held held'
EndsShow k ends.Read old new held held' was is =
    Rose was.input is.input × WritesNothing held held'
EndsShow k ends.Write old new held held' was is =
    Rose was.out is.out × ShowsInPart k old new held held'
EndsShow k ends.NoMemory old new held held' was is =
    WritesNothing held held' ⊎ ShowsInPart k old new held held'

-- ---- before anything is written

-- all was read, and the client is as the records leave it
pub record IsFollowed (k : ℕ) (f : Followed) (old new : Option (List ℕ)) : Type 0 where
  pub records : List Record
  pub reads : IsRead old new records None
  pub stands : f ≡ followed_after k records

-- why not all was read
abbrev pub EndsFollowing : CaptureEnd → Option (List ℕ) → Option (List ℕ) → ℕ → ℕ → Type 0
EndsFollowing (ends.Bad fault) old new was is = HasFault fault old new
EndsFollowing ends.Read old new was is = Rose was is
EndsFollowing ends.Write old new was is = ⊥
EndsFollowing ends.NoMemory old new was is = Unit {0}
