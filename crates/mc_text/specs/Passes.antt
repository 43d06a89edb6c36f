-- Lines that go to a sink in pieces: what is written, and what waits to be.
use Rattle.std.specs.Prelude.{◌≡◌, ℕ, List, ◌++◌, take, Option}
use Rattle.mc_wire.specs.Stream.{Grows}

-- Of the lines that waited and `all` behind them some first part was written, then others wait, and
-- `left` is to come.
pub record Passes (held held' : Option (List ℕ)) (old all new left : List ℕ) : Type 0 where
  pub out : List ℕ
  pub wrote : Grows held held' out
  pub rest : old ++ all ≡ out ++ (new ++ left)

-- some first part of the lines that waited and `all` behind them was written
pub record Breaks (held held' : Option (List ℕ)) (old all : List ℕ) : Type 0 where
  pub len : ℕ
  pub wrote : Grows held held' (take len (old ++ all))

-- some first part of some bytes was written
abbrev pub SendsPart : Option (List ℕ) → Option (List ℕ) → List ℕ → Type 0
SendsPart held held' bytes = (n : ℕ) × Grows held held' (take n bytes)
