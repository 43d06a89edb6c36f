use Rattle.std.specs.Prelude.{ℕ}
use Rattle.mc_wire.specs.LinkCounts.{LinkCounts}
use Rattle.mc_wire.specs.LinkStage.{LinkStage}

-- a link over a stream: where it stands, how many of its calls failed and were quiet, and how many
-- answers with bytes it still gives
pub record TcpLinkState : Type 0 where
  pub stage : LinkStage
  pub counts : LinkCounts
  pub answers : ℕ
