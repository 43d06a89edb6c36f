-- What is printed of a device that failed (a rule of this project).
use Rattle.std.specs.Prelude.{ℕ, List, codes}
use Rattle.mc_bytes.specs.FaultText.{no_memory_text}
use Rattle.mc_wire.specs.declared.input_error.InputError.{InputError}
use Rattle.mc_wire.specs.declared.input_error.InputError.TheVariants.{Failed, NoMemory}

abbrev pub failed_text : List ℕ
failed_text = codes "the device failed"

abbrev pub input_error_text : InputError → List ℕ
input_error_text Failed = failed_text
input_error_text NoMemory = no_memory_text
