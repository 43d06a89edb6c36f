-- What contracts see of a splitter.
use Rattle.std.specs.Prelude.{ℕ, List, [], Option, None}
use Rattle.mc_frame.specs.declared.fault.FrameFault.{FrameFault}

-- the bytes that it holds, how many of the stream stand before them, in 64 bits, and the fault that
-- it met
pub record Splitting : Type 0 where
  pub held : List ℕ
  pub before : ℕ
  pub fault : Option FrameFault

-- the splitter of a stream of which nothing came
abbrev pub nothing_held : Splitting
nothing_held = record { held = []; before = 0; fault = None }
