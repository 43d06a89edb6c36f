-- What reading a script, a line or its words answers.
use Rattle.std.specs.Prelude.{◌≡◌, ℕ, List, [], ◌∷◌, ◌++◌, Option, Some, None, Result, Ok, Err}
use Rattle.mc_words.specs.declared.bad_input.BadInput.{BadInput}
use Rattle.mc_words.specs.declared.bad_input.InputFault.{InputFault}
use Rattle.mc_words.specs.declared.script_line.Unread.{Unread}
use Rattle.mc_words.specs.declared.script_line.Unread.TheVariants as unread
use Rattle.mc_words.specs.declared.script_line.ScriptEvent.{ScriptEvent}
use Rattle.mc_words.specs.declared.script_line.Before.{Before}
use Rattle.mc_words.specs.declared.script.Script.{Script}
use Rattle.mc_words.specs.declared.script.ScriptError.{ScriptError}
use Rattle.mc_words.specs.declared.script.ScriptError.TheVariants as script_error
use Rattle.mc_text.specs.Words.{words_of}
use Rattle.mc_words.specs.Script.{after_event}

-- what is read is what is there, or its fault, unless memory ran out
abbrev pub IsRead : {A : Type 0} → Result A InputFault → Result A Unread → Type 0
IsRead there (Ok x) = there ≡ Ok x
IsRead there (Err (unread.Fault kind)) = there ≡ Err kind
IsRead there (Err unread.NoMemory) = Unit {0}

-- the event that was read is put behind the others
abbrev pub PutsEvent : Option ScriptEvent → List ScriptEvent → List ScriptEvent → Type 0
PutsEvent None old new = new ≡ old
PutsEvent (Some event) old new = new ≡ old ++ event ∷ []

-- what stands before the next line
abbrev pub after_line : Before → Option ScriptEvent → Before
after_line before None = before
after_line before (Some event) = after_event before event

-- a script that was read has these events, or this is the first fault of what is none, unless
-- memory ran out
abbrev pub IsScript : Result (List ScriptEvent) BadInput → Result Script ScriptError → Type 0
IsScript there (Ok script) = there ≡ Ok script.events.items
IsScript there (Err (script_error.Bad bad)) = there ≡ Err bad
IsScript there (Err script_error.NoMemory) = Unit {0}
