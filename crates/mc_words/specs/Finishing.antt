-- What writing the last line makes of how a command ended.
use Rattle.std.specs.Prelude.{◌≡◌, ℕ, ◌⊎◌, List, Option}
use Rattle.mc_words.specs.declared.ended.Ended.{Ended}
use Rattle.mc_words.specs.declared.ended.Ended.TheVariants as ended
use Rattle.mc_words.specs.Devices.{WroteLast}
use Rattle.mc_words.specs.Ended.{bad_input_line, budget_line, net_fault_line, usage_line}
use Rattle.mc_words.specs.Ended.{read_fault_line, refused_line}

-- nothing was written
abbrev pub IsUntouched : Option (List ℕ) → Option (List ℕ) → ℕ → ℕ → Type 0
IsUntouched held held' faults faults' = (held' ≡ held) × (faults' ≡ faults)

-- a last line that is made was written, or there was no memory to make it
abbrev pub FinishesWith : Ended → List ℕ → Ended → Option (List ℕ) → Option (List ℕ) → ℕ → ℕ →
    Type 0
FinishesWith how line result held held' faults faults' =
    ((result ≡ how) × WroteLast held held' faults faults' line)
    ⊎ ((result ≡ ended.NoMemory) × IsUntouched held held' faults faults')

-- a command that ended so ends with this result once its last line is written
abbrev pub Finishes : Ended → Ended → Option (List ℕ) → Option (List ℕ) → ℕ → ℕ → Type 0
Finishes ended.Done result held held' faults faults' =
    (result ≡ ended.Done) × IsUntouched held held' faults faults'
Finishes ended.NoMemory result held held' faults faults' =
    (result ≡ ended.NoMemory) × IsUntouched held held' faults faults'
Finishes ended.Usage result held held' faults faults' =
    (result ≡ ended.Usage) × WroteLast held held' faults faults' usage_line
Finishes ended.ReadFault result held held' faults faults' =
    (result ≡ ended.ReadFault) × WroteLast held held' faults faults' read_fault_line
Finishes ended.WriteFault result held held' faults faults' =
    (result ≡ ended.WriteFault) × IsUntouched held held' faults faults'
Finishes ended.NetFault result held held' faults faults' =
    (result ≡ ended.NetFault) × WroteLast held held' faults faults' net_fault_line
Finishes (ended.BadInput bad) result held held' faults faults' =
    FinishesWith (ended.BadInput bad) (bad_input_line bad) result held held' faults faults'
Finishes (ended.Budget n) result held held' faults faults' =
    FinishesWith (ended.Budget n) (budget_line n) result held held' faults faults'
Finishes (ended.Refused why) result held held' faults faults' =
    FinishesWith (ended.Refused why) (refused_line why) result held held' faults faults'
