-- What a command delivers that reads a text: how much of what is told of its input was written,
-- what was read of the input, and which device failed, by how the command ended. Rules of this
-- project, said once for all such commands.
use Rattle.std.specs.Prelude.{ℕ, List, [], Option, None, Some}
use Rattle.mc_wire.specs.Count.{Rose, StandsOrRises}
use Rattle.mc_wire.specs.Stream.{Grows, IsAtEnd}
use Rattle.mc_words.specs.declared.bad_input.BadInput.{BadInput}
use Rattle.mc_words.specs.declared.ended.Ended.{Ended}
use Rattle.mc_words.specs.declared.ended.Ended.TheVariants as ended
use Rattle.mc_text.specs.Lines.{IsTextRead}
use Rattle.mc_words.specs.Devices.{Streams, WroteTextThenLast}
use Rattle.mc_words.specs.Ended.{bad_input_line, read_fault_line}
use Rattle.mc_text.specs.Passes.{SendsPart}
use Rattle.mc_words.specs.Told.{IsToldOf, Told}

-- the input was read to its end, nothing is wrong with it, and its text was written
pub record Whole (told : List ℕ → Told) (before after : Streams) : Type 0 where
  pub text : List ℕ
  pub told_is : IsToldOf told before.left text None
  pub read : IsAtEnd after.left
  pub wrote : Grows before.held after.held text

-- some first part of the text of the input was written
pub record Part (told : List ℕ → Told) (before after : Streams) : Type 0 where
  pub text : List ℕ
  pub fault : Option BadInput
  pub told_is : IsToldOf told before.left text fault
  pub wrote : SendsPart before.held after.held text

-- the input was read to its end or until it was too long, this is its first fault, and the text of
-- what stands before that was written
pub record Refused (Wrote : List ℕ → List ℕ → Type 0) (told : List ℕ → Told) (bad : BadInput)
    (before after : Streams) : Type 0 where
  pub text : List ℕ
  pub told_is : IsToldOf told before.left text (Some bad)
  pub read : IsTextRead before.left after.left
  pub wrote : Wrote text (bad_input_line bad)

-- by how it ended; `Wrote text line` says what was written of a text and of the last line behind it
abbrev pub Delivery : (List ℕ → List ℕ → Type 0) → (List ℕ → Told) → Ended → Streams → Streams →
    Type 0
Delivery Wrote told ended.Done before after = Whole told before after
Delivery Wrote told ended.NoMemory before after = Part told before after
Delivery Wrote told ended.ReadFault before after =
    Rose before.read_faults after.read_faults × Wrote [] read_fault_line
Delivery Wrote told ended.WriteFault before after =
    Rose before.write_faults after.write_faults × Part told before after
Delivery Wrote told (ended.BadInput bad) before after = Refused Wrote told bad before after
Delivery Wrote told other before after = ⊥

-- before its last line is written
abbrev pub WroteText : Streams → Streams → List ℕ → List ℕ → Type 0
WroteText before after text line =
    Grows before.held after.held text × StandsOrRises before.write_faults after.write_faults

abbrev pub Delivered : (List ℕ → Told) → Ended → Streams → Streams → Type 0
Delivered told how before after = Delivery (WroteText before after) told how before after

-- and with it
abbrev pub WroteBoth : Streams → Streams → List ℕ → List ℕ → Type 0
WroteBoth before after text line =
    WroteTextThenLast before.held after.held before.write_faults after.write_faults text line

abbrev pub Delivers : (List ℕ → Told) → Ended → Streams → Streams → Type 0
Delivers told how before after = Delivery (WroteBoth before after) told how before after
