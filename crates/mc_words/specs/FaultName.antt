-- The names of the faults of an input, as they are printed.
use Rattle.std.specs.Prelude.{ℕ, List, codes}
use Rattle.mc_words.specs.declared.bad_input.InputFault.{InputFault}
use Rattle.mc_words.specs.declared.bad_input.InputFault.TheVariants.{Hex, Frame, Packet, Login, Cut}
use Rattle.mc_words.specs.declared.bad_input.InputFault.TheVariants.{Long, Word, Number, Order}
use Rattle.mc_words.specs.declared.bad_input.InputFault.TheVariants.{BadHead, BadKind, Short}
use Rattle.mc_words.specs.declared.bad_input.InputFault.TheVariants.{TooLong}

abbrev pub fault_name : InputFault → List ℕ
fault_name Hex = codes "Hex"
fault_name Frame = codes "Frame"
fault_name Packet = codes "Packet"
fault_name Login = codes "Login"
fault_name Cut = codes "Cut"
fault_name Long = codes "Long"
fault_name Word = codes "Word"
fault_name Number = codes "Number"
fault_name Order = codes "Order"
fault_name BadHead = codes "BadHead"
fault_name BadKind = codes "BadKind"
fault_name Short = codes "Short"
fault_name TooLong = codes "TooLong"
