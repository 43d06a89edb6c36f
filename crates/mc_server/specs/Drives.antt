-- What serving a lobby comes to: the turns that it took, how it ended, and what it counted. Rules
-- of this project.
use Rattle.std.specs.Prelude.{◌≡◌, ◌≢◌, ℕ, ◌+◌, ◌<◌, ◌≤◌, Bool, true, false, length, List, [], ◌∷◌}
use Rattle.std.specs.Prelude.{◌++◌, Option, Result, Ok, Err}
use Rattle.std.specs.List.{count_by}
use Rattle.mc_wire.specs.declared.log.LogEntry.{LogEntry}
use Rattle.mc_wire.specs.declared.log.LogEntry.TheVariants.{Joined, Ticked, Closed}
use Rattle.mc_wire.specs.declared.log.LogEntry.TheVariants as entries
use Rattle.mc_wire.specs.LobbyTold.{LobbyTold, with_entries, with_port}
use Rattle.mc_wire.specs.Becoming.{ToldBecomes}
use Rattle.mc_model.specs.Log.{events_in, log_of, logged}
use Rattle.mc_model.specs.Minds.{Start}
use Rattle.mc_model.specs.World.{World, new_world}
use Rattle.mc_model.specs.Run.{cause_in}
use Rattle.mc_model.specs.Turns.{AreTurns}
use Rattle.mc_model.specs.Headline.{Headline}
use Rattle.mc_model.specs.Serving.{Serves}
use Rattle.mc_links.specs.Kept.{is_ours}
use Rattle.mc_events.specs.Asking.{ours_there}
use Rattle.mc_events.specs.Served.{ServerValue, age_of}
use Rattle.mc_events.specs.Stands.{Stands}
use Rattle.mc_server.specs.declared.service.Budget.{Budget}
use Rattle.mc_server.specs.declared.service.Tally.{Tally}
use Rattle.mc_server.specs.declared.service.Ended.{Ended}
use Rattle.mc_server.specs.declared.service.Ended.TheVariants as ends
use Rattle.mc_server.specs.declared.service.DriveFault.{DriveFault}
use Rattle.mc_server.specs.declared.service.DriveFault.TheVariants.{Listen, Next, Events, NoMemory}

-- ---- counting in a log

abbrev pub one_if : Bool → ℕ
one_if true = 1
one_if false = 0

abbrev pub is_tick : LogEntry → Bool
is_tick Ticked = true
is_tick other = false

abbrev pub is_join : LogEntry → Bool
is_join (Joined k) = true
is_join other = false

abbrev pub ticks_in : List (List LogEntry) → ℕ
ticks_in turns = count_by is_tick (log_of turns)

abbrev pub joins_in : List (List LogEntry) → ℕ
joins_in turns = count_by is_join (log_of turns)

-- how many of those that went in a log had been closed by the server itself
abbrev pub ours_at : World → LogEntry → ℕ
ours_at w (Closed k) = one_if (is_ours (cause_in k w))
ours_at w other = 0

abbrev pub ours_in : World → List LogEntry → ℕ
ours_in w [] = 0
ours_in w (entry ∷ later) = ours_at w entry + ours_in (logged w (entry ∷ [])) later

-- how many were closed so, of the connections that went in a log and of those that are there at its
-- end
abbrev pub closed_in : World → List LogEntry → ℕ
closed_in w log = ours_in w log + ours_there (logged w log)

pub record IsTally (w : World) (turns : List (List LogEntry)) (tally : Tally) : Type 0 where
  pub joins : tally.joins ≡ joins_in turns
  pub closed : tally.closed ≡ closed_in w (log_of turns)

-- ---- how it ended

-- the last of these ticks came in the last turn
pub record IsReached (ticks : ℕ) (turns : List (List LogEntry)) : Type 0 where
  pub all : ticks_in turns ≡ ticks
  pub first : List (List LogEntry)
  pub turn : List LogEntry
  pub parts : turns ≡ first ++ turn ∷ []
  pub before : ticks_in first < ticks

-- the ticks and the events were not used up
pub record IsWithin (budget : Budget) (turns : List (List LogEntry)) : Type 0 where
  pub ticks : ticks_in turns < budget.ticks
  pub events : length turns < budget.events

-- what the turns and the entries behind them are, by the answer; the cases shut each other out
-- but for want of memory, which may come in any turn
abbrev pub Ends : Budget → World → List (List LogEntry) → List LogEntry →
    Result Ended DriveFault → Type 0
Ends budget w turns last (Ok (ends.Ticks tally)) =
    IsReached budget.ticks turns × (length turns ≤ budget.events) × (last ≡ [])
    × IsTally w turns tally
Ends budget w turns last (Ok (ends.Closed tally)) =
    IsWithin budget turns × (last ≡ entries.Ended ∷ []) × IsTally w turns tally
Ends budget w turns last (Err Listen) = (turns ≡ []) × (last ≡ [])
Ends budget w turns last (Err Next) = IsWithin budget turns × (last ≡ [])
Ends budget w turns last (Err (Events n)) =
    (ticks_in turns < budget.ticks) × (length turns ≡ n) × (n ≡ budget.events) × (last ≡ [])
Ends budget w turns last (Err NoMemory) = IsWithin budget turns

-- ---- all of it

-- After one call of the lobby, which told so much, it was served turn by turn; the server stands
-- for the world after the log of that, unless memory ran out. Behind the turns that were done
-- stands the lobby's end, or what it told in a turn in which memory ran out.
pub record Drove (call : LobbyTold → LobbyTold) (budget : Budget) (old new : Option LobbyTold)
    (w : World) (server : ServerValue) (result : Result Ended DriveFault) : Type 0 where
  pub turns : List (List LogEntry)
  pub last : List LogEntry
  pub told : ToldBecomes old new (λ told. with_entries (log_of turns ++ last) (call told))
  pub stands : result ≢ Err NoMemory → Stands server (logged w (log_of turns ++ last))
  -- it has taken as many ticks as came
  pub age : result ≢ Err NoMemory → age_of server ≡ ticks_in turns
  pub are_turns : AreTurns w turns
  pub ends : Ends budget w turns last result

-- what was done of what the lobby told: a turn in which memory ran out was not
abbrev pub done_log : Result Ended DriveFault → List (List LogEntry) → List LogEntry → List LogEntry
done_log (Err NoMemory) turns last = log_of turns
done_log other turns last = log_of turns ++ last

-- The lobby was asked to listen once, on the port alone, and then served by a server that nothing
-- had happened to. The whole promise holds of that: of the run, and of what the lobby took.
pub record DroveNew (budget : Budget) (old new : Option LobbyTold) (start : Start)
    (server : ServerValue) (result : Result Ended DriveFault) : Type 0 where
  pub drove : Drove (with_port budget.port) budget old new (new_world start) server result
  pub headline : Headline start (events_in (done_log result drove.turns drove.last))
  pub serves : Serves start drove.turns
