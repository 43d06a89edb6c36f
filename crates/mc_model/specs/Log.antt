-- What the entries of a lobby's log make happen, and the world after them. Rules of this project.
use Rattle.std.specs.Prelude.{ℕ, ◌==◌, List, [], ◌∷◌, length, if◌then◌else◌}
use Rattle.std.specs.List.{flat_map}
use Rattle.mc_wire.specs.declared.log.LogEntry.{LogEntry}
use Rattle.mc_wire.specs.declared.log.LogEntry.TheVariants.{Joined, Came, Left, Ticked, Ended, Put}
use Rattle.mc_wire.specs.declared.log.LogEntry.TheVariants.{Stalled, Broke, Closed}
use Rattle.mc_model.specs.Step.{Event, joined, came, left, broke, ticked, took, forgot}
use Rattle.mc_model.specs.World.{World}
use Rattle.mc_model.specs.Run.{history}

-- the event of an entry; that a write stalled or the lobby ended changes nothing
abbrev pub events_of : LogEntry → List Event
events_of (Joined k) = joined k ∷ []
events_of (Came k bytes) = came k bytes ∷ []
events_of (Left k) = left k ∷ []
events_of Ticked = ticked ∷ []
events_of Ended = []
events_of (Put k bytes) = took k (length bytes) ∷ []
events_of (Stalled k) = []
events_of (Broke k) = broke k ∷ []
events_of (Closed k) = forgot k ∷ []

abbrev pub events_in : List LogEntry → List Event
events_in log = flat_map events_of log

-- the log of turns that come one after another
abbrev pub log_of : List (List LogEntry) → List LogEntry
log_of turns = flat_map (λ (turn : List LogEntry). turn) turns

-- what was put to one connection, in all entries
abbrev pub put_by : ℕ → LogEntry → List ℕ
put_by k (Put j bytes) = if j == k then bytes else []
put_by k other = []

abbrev pub puts : ℕ → List LogEntry → List ℕ
puts k log = flat_map (put_by k) log

-- what its entries make happen, one after another
abbrev pub logged : World → List LogEntry → World
logged w log = history w (events_in log)
