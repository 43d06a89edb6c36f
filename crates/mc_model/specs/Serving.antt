-- The whole promise about what a lobby is made to do, over the turns in which it was served: what
-- it took, and which connections it closed. Rules of this project.
use Rattle.std.specs.Prelude.{◌≡◌, ◌≢◌, ◌⊎◌, ◌≤◌, ◌==◌, ℕ, Bool, true, false, List, [], ◌∷◌, ◌++◌}
use Rattle.std.specs.Prelude.{Some}
use Rattle.std.specs.List.{Contains, count_by}
use Rattle.std.specs.FinMap.{get}
use Rattle.mc_wire.specs.declared.log.LogEntry.{LogEntry}
use Rattle.mc_wire.specs.declared.log.LogEntry.TheVariants.{Stalled, Closed}
use Rattle.mc_model.specs.declared.cause.Cause.TheVariants as causes
use Rattle.mc_model.specs.Log.{events_in, log_of, puts, logged}
use Rattle.mc_model.specs.Link.{Link, is_done}
use Rattle.mc_model.specs.Minds.{Start}
use Rattle.mc_model.specs.World.{World, new_world}
use Rattle.mc_model.specs.Run.{lost, owed_in, stream, why}

-- an entry closes a connection
abbrev pub closes : ℕ → LogEntry → Bool
closes k (Closed j) = j == k
closes k other = false

-- What was put to a connection is the first bytes of what was handed to it. Unless it was closed as
-- Backlog, what was lost when it left or broke and what it is owed are all others.
pub record HasPut (k : ℕ) (w : World) (log : List LogEntry) : Type 0 where
  pub begun : (more : List ℕ) × (stream k w (events_in log) ≡ puts k log ++ more)
  pub whole : why k w (events_in log) ≢ Some causes.Backlog → stream k w (events_in log)
      ≡ puts k log ++ (lost k w (events_in log) ++ owed_in k (logged w log))

pub record Serves (start : Start) (turns : List (List LogEntry)) : Type 0 where
  -- at each moment, what was put to a connection is what was handed to it, as far as it took it
  pub put : (log later : List LogEntry) (k : ℕ) → log_of turns ≡ log ++ later →
      HasPut k (new_world start) log
  -- at the end of each turn it is owed nothing, unless a write to it stalled in that turn
  pub emptied : (before : List (List LogEntry)) (turn : List LogEntry)
      (later : List (List LogEntry)) (k : ℕ) → turns ≡ before ++ turn ∷ later →
      (owed_in k (logged (new_world start) (log_of before ++ turn)) ≡ [])
      ⊎ Contains turn (Stalled k)
  -- a connection that is closed in the world and owed nothing is closed by the end of the turn
  pub all_closed : (before : List (List LogEntry)) (turn : List LogEntry)
      (later : List (List LogEntry)) (k : ℕ) (l : Link) → turns ≡ before ++ turn ∷ later →
      get (logged (new_world start) (log_of before ++ turn)).links k ≡ Some l →
      is_done l ≡ false
  -- no other is
  pub none_else : (log later : List LogEntry) (k : ℕ) → log_of turns ≡ log ++ Closed k ∷ later →
      (l : Link) × (get (logged (new_world start) log).links k ≡ Some l)
      × (is_done l ≡ true)
  -- and none twice
  pub once : (k : ℕ) → count_by (closes k) (log_of turns) ≤ 1
