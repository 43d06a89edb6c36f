-- What the parts of a turn come to: writes to one connection and to all, and who is closed then.
use Rattle.std.specs.Prelude.{◌≡◌, ◌≢◌, ◌⊎◌, ◌+◌, ◌≤◌, ℕ, false, List, [], ◌∷◌, ◌++◌, map, Option}
use Rattle.std.specs.Prelude.{Some, if◌then◌else◌}
use Rattle.std.specs.List.{Contains, count_by, flat_map}
use Rattle.std.specs.FinMap.{get, keys}
use Rattle.mc_wire.specs.declared.log.LogEntry.{LogEntry}
use Rattle.mc_wire.specs.declared.log.LogEntry.TheVariants.{Closed, Stalled}
use Rattle.mc_wire.specs.LobbyTold.{LobbyTold}
use Rattle.mc_wire.specs.Becoming.{Logs}
use Rattle.mc_model.specs.Log.{events_of, logged}
use Rattle.mc_model.specs.Link.{Link}
use Rattle.mc_model.specs.Turns.{Happens, Rises, AreWrites, IsTurn, done_in}
use Rattle.mc_model.specs.World.{World}
use Rattle.mc_model.specs.Run.{owed_in}
use Rattle.mc_links.specs.Kept.{is_pending}
use Rattle.mc_events.specs.declared.input.Input.{Input}
use Rattle.mc_events.specs.Asking.{is_done_in}
use Rattle.mc_events.specs.Inputs.{age_after, event_of}
use Rattle.mc_events.specs.Served.{ServerValue}
use Rattle.mc_events.specs.Stands.{Stands}
use Rattle.mc_server.specs.Minded.{ServedValue, StandsFor}
use Rattle.mc_server.specs.Drives.{is_join, is_tick, one_if, ours_in}

-- the numbers of the connections
abbrev pub numbers_in : World → List ℕ
numbers_in w = keys w.links

-- These entries were added to the log of a lobby, and the server stands for the world after them.
pub record Adds (old new : Option LobbyTold) (w : World) (server : ServerValue)
    (log : List LogEntry) : Type 0 where
  pub told : Logs old new log
  pub stands : Stands server (logged w log)

-- a connection is owed nothing after writes, or one of them stalled
abbrev pub IsServed : World → List LogEntry → ℕ → Type 0
IsServed w writes k = (owed_in k (logged w writes) ≡ []) ⊎ Contains writes (Stalled k)

-- whatever rises from one number on may stand behind these writes, and all rise from another on
abbrev pub Leads : ℕ → ℕ → List LogEntry → Type 0
Leads least next writes = (later : List LogEntry) → Rises next later → Rises least (writes ++ later)

-- One connection was written to, and served so; the others are as they were.
pub record HasSent (k : ℕ) (old new : Option LobbyTold) (w : World) (server : ServerValue)
    : Type 0 where
  pub writes : List LogEntry
  pub adds : Adds old new w server writes
  pub are_writes : AreWrites w writes
  pub leads : Leads k (k + 1) writes
  pub served : IsServed w writes k
  pub others : (j : ℕ) → j ≢ k → get (logged w writes).links j ≡ get w.links j
  pub numbers : numbers_in (logged w writes) ≡ numbers_in w

-- all were, and those that were not pending are as they were
pub record HasSentAll (old new : Option LobbyTold) (w : World) (server : ServerValue)
    : Type 0 where
  pub writes : List LogEntry
  pub adds : Adds old new w server writes
  pub are_writes : AreWrites w writes
  pub rises : Rises 0 writes
  pub served : (k : ℕ) → IsServed w writes k
  pub others : (k : ℕ) (l : Link) → get w.links k ≡ Some l → is_pending l ≡ false →
      get (logged w writes).links k ≡ Some l
  pub numbers : numbers_in (logged w writes) ≡ numbers_in w

-- what closing a connection adds where it is closed in the world and owed nothing, and nothing else
abbrev pub closing_of : World → ℕ → List LogEntry
closing_of w k = if is_done_in k w then Closed k ∷ [] else []

-- numbers that rise, from one on
abbrev pub RiseFrom : ℕ → List ℕ → Type 0
RiseFrom n [] = Unit {0}
RiseFrom n (k ∷ ks) = (n ≤ k) × RiseFrom (k + 1) ks

-- among rising numbers are those of all connections that are closed in the world and owed nothing
pub record HoldsDone (w : World) (ks : List ℕ) : Type 0 where
  pub rising : RiseFrom 0 ks
  pub closings : flat_map (closing_of w) ks ≡ map Closed (done_in w)

-- connections were closed, so many of which the server had closed itself
pub record HasClosed (log : List LogEntry) (old new : Option LobbyTold) (w : World)
    (server : ServerValue) (count : ℕ) : Type 0 where
  pub adds : Adds old new w server log
  pub counted : count ≡ ours_in w log

-- ---- a turn

-- an input is what an entry of a lobby's log makes happen
pub record IsInputOf (entry : LogEntry) (input : Input) : Type 0 where
  pub happens : Happens entry
  pub event : events_of entry ≡ event_of input ∷ []
  pub ages : (age : ℕ) → age_after input age ≡ age + one_if (is_tick entry)

-- A turn was done behind the entry of what happened.
pub record HasTurned (entry : LogEntry) (old new : Option LobbyTold) (w : World)
    (served : ServedValue) (count : ℕ) : Type 0 where
  pub rest : List LogEntry
  pub told : Logs old new rest
  pub stands : StandsFor served (logged w (entry ∷ rest))
  pub is_turn : IsTurn w (entry ∷ rest)
  pub ticks : count_by is_tick (entry ∷ rest) ≡ one_if (is_tick entry)
  pub joins : count_by is_join (entry ∷ rest) ≡ one_if (is_join entry)
  pub counted : count ≡ ours_in w (entry ∷ rest)
