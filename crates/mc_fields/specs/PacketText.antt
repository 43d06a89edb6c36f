-- What is printed where a frame is no packet (rules of this project).
use Rattle.std.specs.Prelude.{ℕ, List, ◌++◌, codes, decimal}
use Rattle.std.specs.Fmt.{signed_decimal}
use Rattle.mc_bytes.specs.FaultText.{field_fault_text, no_memory_text}
use Rattle.mc_fields.specs.declared.packet.PacketFault.{PacketFault}
use Rattle.mc_fields.specs.declared.packet.PacketFault.TheVariants.{UnknownId, Field, Trailing}
use Rattle.mc_fields.specs.declared.packet.PacketRead.{PacketRead}
use Rattle.mc_fields.specs.declared.packet.PacketRead.TheVariants.{Fault, NoMemory}

abbrev pub packet_fault_text : PacketFault → List ℕ
packet_fault_text (UnknownId id) = codes "no packet has the id " ++ signed_decimal id
packet_fault_text (Field fault) = field_fault_text fault
packet_fault_text (Trailing count) = decimal count ++ codes " bytes follow the last field"

abbrev pub packet_read_text : PacketRead → List ℕ
packet_read_text (Fault fault) = packet_fault_text fault
packet_read_text NoMemory = no_memory_text
