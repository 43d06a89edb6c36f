-- The log of events after each of which every connection takes all that it is owed, and those that
-- are closed are forgotten; and the world after it. Rules of this project.
use Rattle.std.specs.Prelude.{◌≢◌, ℕ, nat_lt, Bool, List, [], ◌∷◌, ◌++◌, length, map, Some}
use Rattle.std.specs.Prelude.{if◌then◌else◌}
use Rattle.std.specs.List.{filter}
use Rattle.std.specs.FinMap.{entries}
use Rattle.mc_model.specs.declared.cause.Cause.TheVariants.{Backlog}
use Rattle.mc_model.specs.Step.{Event, took, forgot, step}
use Rattle.mc_model.specs.Stages.{is_closed}
use Rattle.mc_model.specs.Link.{Link}
use Rattle.mc_model.specs.Run.{cause_in, history, owed_in}
use Rattle.mc_model.specs.World.{World}
use Rattle.mc_events.specs.Asking.{is_done_in}

-- ---- after an event

-- of connections by their numbers
abbrev pub owes : ℕ × Link → Bool
owes e = nat_lt 0 (length e.1.owed)

abbrev pub is_shut : ℕ × Link → Bool
is_shut e = is_closed e.1.stage

-- each takes all that it is owed, and those that are closed are forgotten
unfoldable pub takings : World → List Event
takings w =
    map (λ (e : ℕ × Link). took e.0 (length e.1.owed)) (filter owes (entries w.links))
    ++ map (λ (e : ℕ × Link). forgot e.0) (filter is_shut (entries w.links))

abbrev pub settled : World → World
settled w = history w (takings w)

-- ---- after all events

-- all that happens
abbrev pub settled_log : World → List Event → List Event
settled_log w [] = []
settled_log w (e ∷ events) =
    e ∷ takings (step w e).world ++ settled_log (settled (step w e).world) events

-- and the world after it
abbrev pub settled_world : World → List Event → World
settled_world w [] = w
settled_world w (e ∷ events) = settled_world (settled (step w e).world) events

-- ---- outboxes

-- no connection was closed since more was due to it than its outbox holds
abbrev pub NoneFull : World → Type 0
NoneFull w = (k : ℕ) → cause_in k w ≢ Some Backlog

-- after no event
abbrev pub NeverFull : World → List Event → Type 0
NeverFull w [] = Unit {0}
NeverFull w (e ∷ events) = NoneFull (step w e).world × NeverFull (step w e).world events

-- ---- one connection after another

-- one took all that it was owed, where that was anything
abbrev pub taken_of : ℕ → World → List ℕ → World
taken_of k w [] = w
taken_of k w (b ∷ bytes) = (step w (took k (length (b ∷ bytes)))).world

abbrev pub taken : ℕ → World → World
taken k w = taken_of k w (owed_in k w)

-- one was forgotten, where it was closed and owed nothing
abbrev pub forgotten : ℕ → World → World
forgotten k w = if is_done_in k w then (step w (forgot k)).world else w

-- what changes make of a world, one for each connection
abbrev pub each : (ℕ → World → World) → List ℕ → World → World
each change [] w = w
each change (k ∷ ks) w = each change ks (change k w)

abbrev pub all_taken : List ℕ → World → World
all_taken ks w = each taken ks w

abbrev pub all_forgotten : List ℕ → World → World
all_forgotten ks w = each forgotten ks w
