use Rattle.std.specs.Prelude.{ℕ, Bool}
use Rattle.mc_wire.specs.LobbyCounts.{LobbyCounts}

-- a lobby over sockets: whether it listens, the least number that the next connection to join may
-- have, and how many of its calls failed, stalled and broke
pub record SocketLobbyState : Type 0 where
  pub listens : Bool
  pub least : ℕ
  pub counts : LobbyCounts

-- so many failures, stalls and breaks
abbrev pub counts_of : ℕ → ℕ → ℕ → LobbyCounts
counts_of faults stalls breaks = record { faults = faults; stalls = stalls; breaks = breaks }
