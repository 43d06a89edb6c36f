-- Why a dump was not written whole, by what was met in writing its lines.
use Rattle.mc_text.specs.declared.unfinished.Unfinished.{Unfinished}
use Rattle.mc_text.specs.declared.unfinished.Unfinished.TheVariants as unfinished
use Rattle.mc_replica.specs.declared.dump_fault.DumpFault.{DumpFault}
use Rattle.mc_replica.specs.declared.dump_fault.DumpFault.TheVariants as faults

abbrev pub fault_after : Unfinished → DumpFault
fault_after unfinished.Failed = faults.Write
fault_after unfinished.NoMemory = faults.NoMemory
