-- What is printed where a cell was not set (rules of this project).
use Rattle.std.specs.Prelude.{ℕ, List, codes}
use Rattle.mc_bytes.specs.FaultText.{no_memory_text}
use Rattle.mc_land.specs.declared.fault.LandFault.{LandFault}
use Rattle.mc_land.specs.declared.fault.LandFault.TheVariants.{Outside, NoMemory}

abbrev pub land_fault_text : LandFault → List ℕ
land_fault_text Outside = codes "the cell lies outside the world"
land_fault_text NoMemory = no_memory_text
