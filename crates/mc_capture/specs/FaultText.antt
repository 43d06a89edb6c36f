-- What is printed of a capture that is none (rules of this project).
use Rattle.std.specs.Prelude.{ℕ, List, ◌++◌, codes, decimal}
use Rattle.mc_capture.specs.declared.fault.CaptureKind.{CaptureKind}
use Rattle.mc_capture.specs.declared.fault.CaptureKind.TheVariants.{BadHead, BadKind, Short, TooLong}
use Rattle.mc_capture.specs.declared.fault.CaptureFault.{CaptureFault}
use Rattle.mc_capture.specs.declared.fault.CaptureEnd.{CaptureEnd}
use Rattle.mc_capture.specs.declared.fault.CaptureEnd.TheVariants as ends

abbrev pub kind_text : CaptureKind → List ℕ
kind_text BadHead = codes "it does not begin as a capture"
kind_text (BadKind kind) = codes "a record has the kind " ++ decimal kind
kind_text Short = codes "it ends inside a record"
kind_text (TooLong size) = codes "a record has " ++ decimal size ++ codes " bytes"

abbrev pub fault_text : CaptureFault → List ℕ
fault_text fault = kind_text fault.kind ++ codes ", at byte " ++ decimal fault.at

abbrev pub end_text : CaptureEnd → List ℕ
end_text (ends.Bad fault) = codes "no capture: " ++ fault_text fault
end_text ends.Read = codes "the source failed"
end_text ends.Write = codes "the sink failed"
end_text ends.NoMemory = codes "out of memory"
