-- What a command that reads a text tells of it, and how much of that a writer has written. Rules of
-- this project.
use Rattle.std.specs.Prelude.{◌≡◌, ℕ, List, Option, IfSome, Result, Ok, Err}
use Rattle.mc_wire.specs.Count.{Rose, StandsOrRises}
use Rattle.mc_wire.specs.Stream.{Grows}
use Rattle.mc_words.specs.declared.bad_input.BadInput.{BadInput}
use Rattle.mc_text.specs.Passes.{SendsPart}
use Rattle.mc_text.specs.declared.unfinished.Unfinished.{Unfinished}
use Rattle.mc_text.specs.declared.unfinished.Unfinished.TheVariants.{Failed, NoMemory}

-- the text that is written before a last line, and the first fault of the input, which the last
-- line names
pub record Told : Type 0 where
  pub text : List ℕ
  pub fault : Option BadInput

-- this is told of an input: of the one that a source has left, where it says what it has left
pub record IsToldOf (told : List ℕ → Told) (left : Option (List ℕ)) (text : List ℕ)
    (fault : Option BadInput) : Type 0 where
  pub input : List ℕ
  pub left_is : IfSome left (λ (l : List ℕ). l ≡ input)
  pub is : told input ≡ record { text = text; fault = fault }

-- what a writer of it answers: it wrote all and gives the fault, or some first part was written
-- when the sink failed or memory ran out
abbrev pub Tells : Told → Result (Option BadInput) Unfinished → Option (List ℕ) →
    Option (List ℕ) → ℕ → ℕ → Type 0
Tells told (Ok fault) held held' faults faults' =
    (fault ≡ told.fault) × Grows held held' told.text × StandsOrRises faults faults'
Tells told (Err Failed) held held' faults faults' =
    Rose faults faults' × SendsPart held held' told.text
Tells told (Err NoMemory) held held' faults faults' = SendsPart held held' told.text
