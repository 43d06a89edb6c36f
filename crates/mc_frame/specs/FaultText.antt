-- What is printed where a stream can't be cut any further (a rule of this project).
use Rattle.std.specs.Prelude.{ℕ, List, ◌++◌, codes, decimal}
use Rattle.mc_frame.specs.declared.fault.FrameFault.{FrameFault}
use Rattle.mc_frame.specs.declared.fault.FrameFault.TheVariants.{LongLength, ZeroLength}

abbrev pub frame_fault_text : FrameFault → List ℕ
frame_fault_text (LongLength at) = codes "a frame's length has more than three bytes, at byte " ++
    decimal at
frame_fault_text (ZeroLength at) = codes "a frame's length is 0, at byte " ++ decimal at
