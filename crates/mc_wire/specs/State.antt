-- What contracts see of the sources and sinks in memory, and of which of their calls fail.
use Rattle.std.specs.Prelude.{ℕ, Option, List}

-- a source in memory: the bytes that are left, the numbers of the reads that fail, how many reads
-- there were, and how many of them failed
pub record SourceState : Type 0 where
  pub left : List ℕ
  pub fails : List ℕ
  pub calls : ℕ
  pub faults : ℕ

-- a sink in memory: the bytes that it holds where it still tells them, the numbers of the writes
-- that fail, how many writes there were, and how many of them failed
pub record SinkState : Type 0 where
  pub held : Option (List ℕ)
  pub fails : List ℕ
  pub calls : ℕ
  pub faults : ℕ

-- the numbers of the calls that fail, how many calls there were, and how many of them failed
pub record PlanState : Type 0 where
  pub fails : List ℕ
  pub calls : ℕ
  pub faults : ℕ
