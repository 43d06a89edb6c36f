-- What reading a script, a line or its words answers.
use Rattle.std.specs.Prelude.{◌≡◌, ℕ, Result, Ok, Err}
use Rattle.mc_bot.specs.declared.script.ScriptFault.{ScriptFault}
use Rattle.mc_bot.specs.declared.script.ScriptKind.{ScriptKind}
use Rattle.mc_bot.specs.declared.script.ScriptRead.{ScriptRead}
use Rattle.mc_bot.specs.declared.script.ScriptRead.TheVariants as script_read
use Rattle.mc_bot.specs.declared.act.Unread.{Unread}
use Rattle.mc_bot.specs.declared.act.Unread.TheVariants as unread
use Rattle.mc_bot.specs.Script.{Begun, ScriptValue}

-- what is read is what is there, or its fault, unless memory ran out
abbrev pub IsRead : {A : Type 0} → Result A ScriptKind → Result A Unread → Type 0
IsRead there (Ok x) = there ≡ Ok x
IsRead there (Err (unread.Fault kind)) = there ≡ Err kind
IsRead there (Err unread.NoMemory) = Unit {0}

-- a line is taken as it is there, or its fault, unless memory ran out
abbrev pub IsTaken : Result Begun ScriptKind → Result (Unit {0}) Unread → Begun → Type 0
IsTaken there (Ok done) new = there ≡ Ok new
IsTaken there (Err (unread.Fault kind)) new = there ≡ Err kind
IsTaken there (Err unread.NoMemory) new = Unit {0}

-- all lines are
abbrev pub AreTaken : Result Begun ScriptFault → Result (Unit {0}) ScriptRead → Begun → Type 0
AreTaken there (Ok done) new = there ≡ Ok new
AreTaken there (Err (script_read.Bad fault)) new = there ≡ Err fault
AreTaken there (Err script_read.NoMemory) new = Unit {0}

-- what it is about a line that a script is not read for
abbrev pub read_at : ℕ → Unread → ScriptRead
read_at n (unread.Fault kind) = script_read.Bad (record { line = n; kind = kind })
read_at n unread.NoMemory = script_read.NoMemory

-- a script is read exactly as it is there, or its first fault, unless memory ran out
abbrev pub IsScriptRead : Result ScriptValue ScriptFault → Result ScriptValue ScriptRead → Type 0
IsScriptRead there (Ok script) = there ≡ Ok script
IsScriptRead there (Err (script_read.Bad fault)) = there ≡ Err fault
IsScriptRead there (Err script_read.NoMemory) = Unit {0}
