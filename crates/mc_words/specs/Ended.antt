-- The statuses of the program, and the last line that each has. Rules of this project.
use Rattle.std.specs.Prelude.{ℕ, List, [], ◌++◌, Option, Some, None, Result, Ok, Err, codes}
use Rattle.std.specs.Prelude.{decimal}
use Rattle.mc_words.specs.declared.bad_input.BadInput.{BadInput}
use Rattle.mc_words.specs.declared.ended.Ended.{Ended}
use Rattle.mc_words.specs.declared.ended.Ended.TheVariants as ended
use Rattle.mc_words.specs.declared.ended.TheConstants.{USAGE}
use Rattle.mc_text.specs.declared.unfinished.Unfinished.{Unfinished}
use Rattle.mc_text.specs.declared.unfinished.Unfinished.TheVariants.{Failed, NoMemory}
use Rattle.mc_text.specs.Lines.{ended_line}
use Rattle.mc_words.specs.FaultName.{fault_name}
use Rattle.mc_words.specs.declared.refusal.Refusal.{Refusal}
use Rattle.mc_words.specs.RefusalText.{refusal_text}

-- how a command ends that wrote what is told of its input, and found this first fault there
abbrev pub ended_told : Result (Option BadInput) Unfinished → Ended
ended_told (Ok None) = ended.Done
ended_told (Ok (Some bad)) = ended.BadInput bad
ended_told (Err Failed) = ended.WriteFault
ended_told (Err NoMemory) = ended.NoMemory

abbrev pub status_of : Ended → ℕ
status_of ended.Done = 0
status_of ended.NoMemory = 1
status_of ended.Usage = 2
status_of ended.ReadFault = 3
status_of ended.WriteFault = 4
status_of ended.NetFault = 5
status_of (ended.BadInput bad) = 6
status_of (ended.Budget n) = 7
status_of (ended.Refused why) = 8

-- the last lines, with their ends
abbrev pub usage_line : List ℕ
usage_line = USAGE.now

abbrev pub read_fault_line : List ℕ
read_fault_line = ended_line (codes "read fault")

abbrev pub net_fault_line : List ℕ
net_fault_line = ended_line (codes "net fault")

-- how many events there may be, all of which came, or how many quiet reads in turn
abbrev pub budget_line : ℕ → List ℕ
budget_line n = ended_line (codes "budget " ++ decimal n)

-- where the first fault of an input shows, and what it is
abbrev pub bad_input_line : BadInput → List ℕ
bad_input_line bad =
    ended_line (codes "bad input at " ++ decimal bad.at ++ codes ": " ++ fault_name bad.kind)

-- why a bot was refused
abbrev pub refused_line : Refusal → List ℕ
refused_line why = ended_line (codes "refused: " ++ refusal_text why)

-- the last line where it says no more than that a command ended so
abbrev pub fixed_line_of : Ended → List ℕ
fixed_line_of ended.Usage = usage_line
fixed_line_of ended.ReadFault = read_fault_line
fixed_line_of ended.Done = []
fixed_line_of ended.NoMemory = []
fixed_line_of ended.WriteFault = []
fixed_line_of ended.NetFault = net_fault_line
fixed_line_of (ended.BadInput bad) = []
fixed_line_of (ended.Budget n) = []
fixed_line_of (ended.Refused why) = []
