-- What `load` promises, by how it ends. Rules of this project.
use Rattle.std.specs.Prelude.{◌≡◌, ℕ, List, Option}
use Rattle.mc_wire.specs.Count.{Rose}
use Rattle.mc_wire.specs.Stream.{Grows}
use Rattle.mc_text.specs.Passes.{SendsPart}
use Rattle.mc_measure.specs.LoadText.{KeepsAll, load_text}
use Rattle.mc_words.specs.declared.arguments.LoadOptions.{LoadOptions}
use Rattle.mc_words.specs.declared.ended.Ended.{Ended}
use Rattle.mc_words.specs.declared.ended.Ended.TheVariants as ended
use Rattle.mc_words.specs.Devices.{Devices}

abbrev pub text_of : LoadOptions → List ℕ
text_of options = load_text options.clients options.ticks

-- how much of its line was written; the whole promise about a run holds of the load
abbrev pub Loads : LoadOptions → Ended → Option (List ℕ) → Option (List ℕ) → ℕ → ℕ → Type 0
Loads options ended.Done held held' faults faults' =
    Grows held held' (text_of options) × KeepsAll options.clients options.ticks
Loads options ended.NoMemory held held' faults faults' = held' ≡ held
Loads options ended.WriteFault held held' faults faults' =
    Rose faults faults' × SendsPart held held' (text_of options)
Loads options other held held' faults faults' = ⊥

abbrev pub LoadPromise : LoadOptions → Ended → Devices → Devices → Type 0
LoadPromise options how before after =
    Loads options how before.held after.held before.write_faults after.write_faults
