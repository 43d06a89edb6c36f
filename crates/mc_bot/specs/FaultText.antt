-- What is printed where a script was not played to its end. Rules of this project.
use Rattle.std.specs.Prelude.{ℕ, List, ◌++◌, Option, Some, None, codes, decimal}
use Rattle.mc_bytes.specs.FaultText.{field_fault_text, no_memory_text}
use Rattle.mc_fields.specs.PacketText.{packet_fault_text}
use Rattle.mc_frame.specs.FaultText.{frame_fault_text}
use Rattle.mc_bot.specs.declared.bot_fault.BotFault.{BotFault}
use Rattle.mc_bot.specs.declared.bot_fault.BotFault.TheVariants as faults

-- the state of a cell, which may not be known
abbrev pub state_text : Option ℕ → List ℕ
state_text (Some state) = decimal state
state_text None = codes "none"

abbrev pub bot_fault_text : BotFault → List ℕ
bot_fault_text faults.Link = codes "the link to the server failed"
bot_fault_text faults.Write = codes "the output failed"
bot_fault_text (faults.Closed reason) =
    codes "the server closed the link, and said \"" ++ reason ++ codes "\""
bot_fault_text (faults.Frame fault) = frame_fault_text fault
bot_fault_text (faults.Packet fault count) =
    codes "behind " ++ decimal count ++ codes " packets: " ++ packet_fault_text fault
bot_fault_text (faults.Body fault) = codes "a column: " ++ field_fault_text fault
bot_fault_text (faults.Patience n) = decimal n ++ codes " quiet reads in a row"
bot_fault_text (faults.Expect line want have) =
    codes "line " ++ decimal line ++ codes ": want " ++ decimal want ++ codes ", have "
    ++ state_text have
bot_fault_text faults.NoMemory = no_memory_text
