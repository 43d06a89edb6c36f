-- The fault of a stream, from the fault at which reading a frame stops.
use Rattle.std.specs.Prelude.{ℕ, Option, Some, None}
use Rattle.mc_bytes.specs.declared.fault.Kind.{Kind}
use Rattle.mc_bytes.specs.declared.fault.Kind.TheVariants.{Short, LongVarInt}
use Rattle.mc_frame.specs.declared.fault.FrameFault.{FrameFault}
use Rattle.mc_frame.specs.declared.fault.FrameFault.TheVariants.{LongLength, ZeroLength}

abbrev pub fault_of : Kind → ℕ → Option FrameFault
fault_of Short count = None
fault_of LongVarInt count = Some (LongLength count)
fault_of other count = Some (ZeroLength count)
