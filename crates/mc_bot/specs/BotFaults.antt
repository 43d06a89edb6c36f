-- Faults of what a play calls, as faults of the play.
use Rattle.std.specs.Prelude.{ℕ}
use Rattle.mc_bytes.specs.declared.fault.ReadFault.{ReadFault}
use Rattle.mc_bytes.specs.declared.fault.ReadFault.TheVariants as reads
use Rattle.mc_fields.specs.declared.packet.PacketRead.{PacketRead}
use Rattle.mc_fields.specs.declared.packet.PacketRead.TheVariants as packets
use Rattle.mc_replica.specs.declared.dump_fault.DumpFault.{DumpFault}
use Rattle.mc_replica.specs.declared.dump_fault.DumpFault.TheVariants as dumps
use Rattle.mc_bot.specs.declared.bot_fault.BotFault.{BotFault}
use Rattle.mc_bot.specs.declared.bot_fault.BotFault.TheVariants as faults

abbrev pub fault_of_dump : DumpFault → BotFault
fault_of_dump dumps.Write = faults.Write
fault_of_dump dumps.NoMemory = faults.NoMemory

abbrev pub fault_of_read : ReadFault → BotFault
fault_of_read (reads.Field fault) = faults.Body fault
fault_of_read reads.NoMemory = faults.NoMemory

-- of a frame that is no packet, behind so many packets that were read
abbrev pub fault_of_packet : ℕ → PacketRead → BotFault
fault_of_packet count (packets.Fault fault) = faults.Packet fault count
fault_of_packet count packets.NoMemory = faults.NoMemory
