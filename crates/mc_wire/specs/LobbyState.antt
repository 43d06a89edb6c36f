-- What contracts see of the lobbies in memory.
use Rattle.std.specs.Prelude.{ℕ, Option, List, Bool}
use Rattle.mc_wire.specs.declared.log.LogEntry.{LogEntry}
use Rattle.mc_wire.specs.declared.trouble.Trouble.{Trouble}
use Rattle.mc_wire.specs.LobbyTold.{LobbyTold}
use Rattle.mc_wire.specs.LobbyCounts.{LobbyCounts}

-- the events that are left, and the least number that the next one to join may have
pub record EventsState : Type 0 where
  pub left : List LogEntry
  pub least : ℕ

-- a lobby that never fails: what it tells, where it does, the events that are left, the least
-- number of the next one to join, and whether it listens
pub record SteadyState : Type 0 where
  pub told : Option LobbyTold
  pub left : List LogEntry
  pub least : ℕ
  pub listens : Bool

-- a lobby some of whose calls fail: the same, its troubles, how many nexts and writes there were,
-- and how many of its calls failed, stalled and broke
pub record LobbyState : Type 0 where
  pub told : Option LobbyTold
  pub left : List LogEntry
  pub least : ℕ
  pub listens : Bool
  pub troubles : List Trouble
  pub nexts : ℕ
  pub writes : ℕ
  pub counts : LobbyCounts
