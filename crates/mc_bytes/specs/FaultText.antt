-- What is printed of the faults of a field: the kind and the place in plain words (rules of this
-- project).
use Rattle.std.specs.Prelude.{ℕ, List, ◌++◌, codes, decimal}
use Rattle.mc_bytes.specs.declared.fault.Kind.{Kind}
use Rattle.mc_bytes.specs.declared.fault.Kind.TheVariants.{Short, LongVarInt, BadText, TooLong}
use Rattle.mc_bytes.specs.declared.fault.Kind.TheVariants.{BadNumber, BadTag, Deep, BadLength}
use Rattle.mc_bytes.specs.declared.fault.Stop.{Stop}
use Rattle.mc_bytes.specs.declared.fault.FieldFault.{FieldFault}
use Rattle.mc_bytes.specs.declared.fault.ReadError.{ReadError}
use Rattle.mc_bytes.specs.declared.fault.ReadError.TheVariants as read_errors
use Rattle.mc_bytes.specs.declared.fault.ReadFault.{ReadFault}
use Rattle.mc_bytes.specs.declared.fault.ReadFault.TheVariants as read_faults

-- the words of a kind
abbrev pub kind_text : Kind → List ℕ
kind_text Short = codes "the bytes end inside a field"
kind_text LongVarInt = codes "a VarInt has too many bytes"
kind_text BadText = codes "a text is not UTF-8"
kind_text TooLong = codes "a text is too long"
kind_text BadNumber = codes "a number is not one that its field allows"
kind_text BadTag = codes "a tag byte is not one that its place allows"
kind_text Deep = codes "too many lists and compounds stand in one another"
kind_text BadLength = codes "a length is not one that its field allows"

-- what every call says that finds no memory
abbrev pub no_memory_text : List ℕ
no_memory_text = codes "out of memory"

-- with the place counted from the front
abbrev pub field_fault_text : FieldFault → List ℕ
field_fault_text fault = kind_text fault.kind ++ codes ", at byte " ++ decimal fault.at

-- with the place counted from the end
abbrev pub stop_text : Stop → List ℕ
stop_text stop =
    kind_text stop.kind ++ codes ", " ++ decimal stop.left ++ codes " bytes before the end"

abbrev pub read_error_text : ReadError → List ℕ
read_error_text (read_errors.Stop stop) = stop_text stop
read_error_text read_errors.NoMemory = no_memory_text

abbrev pub read_fault_text : ReadFault → List ℕ
read_fault_text (read_faults.Field fault) = field_fault_text fault
read_fault_text read_faults.NoMemory = no_memory_text
