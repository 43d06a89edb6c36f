-- What `replay` tells of a script, and what it promises of all that happens in one. Rules of this
-- project.
use Rattle.std.specs.Prelude.{◌≡◌, ℕ, List, [], Option, Some, None, IfSome, Result, Ok, Err, take}
use Rattle.mc_model.specs.declared.settings.Settings.{Settings}
use Rattle.mc_model.specs.Minds.{Plans, Start}
use Rattle.mc_model.specs.World.{new_world}
use Rattle.mc_model.specs.Headline.{Headline}
use Rattle.mc_words.specs.declared.bad_input.BadInput.{BadInput}
use Rattle.mc_words.specs.declared.script_line.ScriptEvent.{ScriptEvent}
use Rattle.mc_words.specs.declared.arguments.WorldOptions.{WorldOptions}
use Rattle.mc_words.specs.declared.ended.Ended.{Ended}
use Rattle.mc_words.specs.declared.ended.Ended.TheVariants as ended
use Rattle.mc_words.specs.Script.{script_of}
use Rattle.mc_words.specs.Told.{Told}
use Rattle.mc_measure.specs.Settling.{settled_log}
use Rattle.mc_top.specs.ReplayText.{events_of, replay_text, IsToldTaken}

-- the settings that a world begins with by the options
abbrev pub settings_of : WorldOptions → Settings
settings_of options = record {
  players = options.players;
  cap = options.view;
  terrain = options.terrain;
}

-- what it begins with where minds with these plans were handed in: the first of them move its mobs,
-- as many as the options say
abbrev pub start_of : Plans → WorldOptions → Start
start_of plans options =
    record { settings = settings_of options; plans = take options.mobs plans }

-- what is told of a script: the text of its events, or nothing but its first fault
abbrev pub told_script : Start → Result (List ScriptEvent) BadInput → Told
told_script start (Ok events) =
    record { text = replay_text (new_world start) (events_of events); fault = None }
told_script start (Err bad) = record { text = []; fault = Some bad }

unfoldable pub replay_told : Start → List ℕ → Told
replay_told start input = told_script start (script_of input)

-- a text is a script without fault
abbrev pub IsScriptText : List ℕ → Type 0
IsScriptText text = (events : List ScriptEvent) × (script_of text ≡ Ok events)

-- all that happens in a script keeps the whole promise about a run, and the `sent` lines tell just
-- the bytes of that promise
pub record KeepsAll (start : Start) (events : List ScriptEvent) : Type 0 where
  pub promise : Headline start (settled_log (new_world start) (events_of events))
  pub sent : (k : ℕ) → IsToldTaken k (new_world start) (events_of events)

-- the input is a script without fault, where it is told, and what its lines say keeps all of that
pub record IsPlayed (start : Start) (left : Option (List ℕ)) : Type 0 where
  pub script : IfSome left IsScriptText
  pub keeps : (input : List ℕ) (events : List ScriptEvent) →
      IfSome left (λ (l : List ℕ). l ≡ input) → script_of input ≡ Ok events →
      KeepsAll start events

-- so it is wherever a script was played to its end, or until its text could not be written
abbrev pub Plays : Start → Ended → Option (List ℕ) → Type 0
Plays start ended.Done left = IsPlayed start left
Plays start ended.WriteFault left = IsPlayed start left
Plays start other left = Unit {0}
