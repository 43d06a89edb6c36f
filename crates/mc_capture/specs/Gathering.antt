-- Lines that go to a sink in pieces: what of a text is written, and what waits to be (rules of this
-- project).
use Rattle.std.specs.Prelude.{◌≡◌, ℕ, List, ◌++◌, take, Option}
use Rattle.mc_wire.specs.Stream.{Grows}
use Rattle.mc_capture.specs.declared.fault.CaptureEnd.{CaptureEnd}
use Rattle.mc_capture.specs.declared.fault.CaptureEnd.TheVariants as ends
use Rattle.mc_capture.specs.declared.unwritten.Unwritten.{Unwritten}
use Rattle.mc_capture.specs.declared.unwritten.Unwritten.TheVariants as unwritten

-- a first part of a text was written, and the rest of it waits
pub record Gathers (held held' : Option (List ℕ)) (text waits : List ℕ) : Type 0 where
  pub out : List ℕ
  pub wrote : Grows held held' out
  pub parts : text ≡ out ++ waits

-- some first part of a text was written
abbrev pub WritesPart : Option (List ℕ) → Option (List ℕ) → List ℕ → Type 0
WritesPart held held' text = (n : ℕ) × Grows held held' (take n text)

-- why a capture was not all shown, where its lines were not all written
abbrev pub end_of : Unwritten → CaptureEnd
end_of unwritten.Failed = ends.Write
end_of unwritten.NoMemory = ends.NoMemory
