-- What is printed where an entity is not added (a rule of this project).
use Rattle.std.specs.Prelude.{ℕ, List, codes}
use Rattle.mc_entities.specs.declared.fault.FolkFault.{FolkFault}
use Rattle.mc_entities.specs.declared.fault.FolkFault.TheVariants.{Full, Spent, NoMemory}

abbrev pub folk_fault_text : FolkFault → List ℕ
folk_fault_text Full = codes "too many dropped items"
folk_fault_text Spent = codes "no entity number is left"
folk_fault_text NoMemory = codes "out of memory"
