-- A bot's script, as a text of lines, and the first fault of one that is none. Rules of this
-- project: the first line that is not left out joins, and no later one does.
use Rattle.std.specs.Prelude.{ℕ, ◌+◌, List, [], ◌∷◌, ◌++◌, length, Option, Some, None, Result, Ok, Err}
use Rattle.std.specs.Prelude.{if◌then◌else◌}
use Rattle.mc_text.specs.Lines.{lines_of, is_skipped, goes_past}
use Rattle.mc_bot.specs.declared.act.Line.{Line}
use Rattle.mc_bot.specs.declared.act.Said.{Said}
use Rattle.mc_bot.specs.declared.act.Said.TheVariants.{Join, Does}
use Rattle.mc_bot.specs.declared.script.ScriptFault.{ScriptFault}
use Rattle.mc_bot.specs.declared.script.ScriptKind.{ScriptKind}
use Rattle.mc_bot.specs.declared.script.ScriptKind.TheVariants.{Order, Long}
use Rattle.mc_bot.specs.Words.{line_said}

-- what some first lines of a script came to: the name, once one joined, and what to do, in order
pub record Begun : Type 0 where
  pub name : Option (List ℕ)
  pub lines : List Line

-- a script: the name that joins, and what to do, in order
pub record ScriptValue : Type 0 where
  pub name : List ℕ
  pub lines : List Line

-- before the first line
abbrev pub not_begun : Begun
not_begun = record { name = None; lines = [] }

-- line n says this behind what some first lines came to
abbrev pub said_next : ℕ → Option (List ℕ) → List Line → Said → Result Begun ScriptKind
said_next n None lines (Join name) = Ok (record { name = Some name; lines = lines })
said_next n (Some name) lines (Does act) =
    Ok (record { name = Some name; lines = lines ++ record { number = n; act = act } ∷ [] })
said_next n name lines said = Err Order

abbrev pub said_after : ℕ → Begun → Result Said ScriptKind → Result Begun ScriptKind
said_after n begun (Ok said) = said_next n begun.name begun.lines said
said_after n begun (Err kind) = Err kind

-- line n, with so many bytes up to its end, of a text of `len` bytes
unfoldable pub line_after : ℕ → ℕ → ℕ → Begun → List ℕ → Result Begun ScriptKind
line_after n len size begun line =
    if goes_past len size then Err Long
    else if is_skipped line then Ok begun
    else said_after n begun (line_said line)

-- line n and those behind it
abbrev pub then_lines : ℕ → Result Begun ScriptKind → (Begun → Result Begun ScriptFault) →
    Result Begun ScriptFault
then_lines n (Ok begun) later = later begun
then_lines n (Err kind) later = Err (record { line = n; kind = kind })

-- the lines behind the first `count`, which have `size` bytes with their ends, of a text of `len`
-- bytes
unfoldable pub lines_after : ℕ → ℕ → ℕ → Begun → List (List ℕ) → Result Begun ScriptFault
lines_after len count size begun [] = Ok begun
lines_after len count size begun (line ∷ lines) =
    then_lines (count + 1) (line_after (count + 1) len (size + (length line + 1)) begun line)
    (λ next. lines_after len (count + 1) (size + (length line + 1)) next lines)

-- a script in which nobody joins has its fault in its first line
abbrev pub named : Option (List ℕ) → List Line → Result ScriptValue ScriptFault
named None lines = Err (record { line = 1; kind = Order })
named (Some name) lines = Ok (record { name = name; lines = lines })

abbrev pub finished : Result Begun ScriptFault → Result ScriptValue ScriptFault
finished (Ok begun) = named begun.name begun.lines
finished (Err fault) = Err fault

-- the script that a text is, or its first fault
unfoldable pub script_of : List ℕ → Result ScriptValue ScriptFault
script_of text = finished (lines_after (length text) 0 0 not_begun (lines_of text))
