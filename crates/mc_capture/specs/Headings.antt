-- What the first nine bytes of a record say, where they are there (a rule of this project).
use Rattle.std.specs.Prelude.{◌≡◌, ℕ, ◌<◌, ◌≤◌, List, [], Option, Some, None}
use Rattle.mc_wire.specs.Count.{Rose}
use Rattle.mc_wire.specs.Stream.{Consumes, IsAtEnd}
use Rattle.mc_capture.specs.declared.fault.CaptureEnd.{CaptureEnd}
use Rattle.mc_capture.specs.declared.fault.CaptureEnd.TheVariants as ends
use Rattle.mc_capture.specs.declared.heading.Heading.{Heading}
use Rattle.mc_capture.specs.declared.record.TheConstants.{KINDS}
use Rattle.mc_capture.specs.Grammar.{heading, most_bytes}

-- the nine bytes
abbrev pub front_of : Heading → List ℕ
front_of h = heading h.kind h.connection h.size

pub record IsHeading (h : Heading) : Type 0 where
  pub kind : h.kind < KINDS
  pub size : h.size ≤ most_bytes h.kind

-- what some bytes are, nine at most
abbrev pub IsFront : Option Heading → List ℕ → Type 0
IsFront None bytes = bytes ≡ []
IsFront (Some h) bytes = IsHeading h × (bytes ≡ front_of h)

-- a heading, or the end of the source
abbrev pub FindsFront : Option Heading → Option (List ℕ) → Option (List ℕ) → Type 0
FindsFront None old new = Consumes old new [] × IsAtEnd new
FindsFront (Some h) old new = IsHeading h × Consumes old new (front_of h)

-- why the bytes of a record were not read
abbrev pub EndsCarried : CaptureEnd → ℕ → ℕ → Type 0
EndsCarried (ends.Bad fault) was is = ⊥
EndsCarried ends.Read was is = Rose was is
EndsCarried ends.Write was is = ⊥
EndsCarried ends.NoMemory was is = Unit {0}
