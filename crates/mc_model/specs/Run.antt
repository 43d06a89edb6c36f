-- Runs: what a list of events makes of the world, what was handed to a connection in them, and why
-- it was closed. Rules of this project.
use Rattle.std.specs.Prelude.{ℕ, ◌==◌, ◌&&◌, is_some, take, List, [], ◌∷◌, ◌++◌, Option, Some, None}
use Rattle.std.specs.Prelude.{if◌then◌else◌}
use Rattle.std.specs.List.{flat_map, fold}
use Rattle.std.specs.Option.{option_and_then}
use Rattle.std.specs.FinMap.{get}
use Rattle.mc_bytes.specs.Reading.{IsBytes}
use Rattle.mc_model.specs.declared.cause.Cause.{Cause}
use Rattle.mc_model.specs.Packets.{Sent, bytes_of}
use Rattle.mc_model.specs.Step.{Event, came, left, broke, took, step}
use Rattle.mc_model.specs.Link.{Link}
use Rattle.mc_model.specs.World.{World}

-- what one connection was handed in a step
abbrev pub to : ℕ → List (ℕ × List Sent) → List Sent
to k out = flat_map (λ (o : ℕ × List Sent). if o.0 == k then o.1 else []) out

abbrev pub first_of : Option Cause → Option Cause → Option Cause
first_of (Some cause) later = Some cause
first_of None later = later

-- what came are bytes
abbrev pub AreBytes : List Event → Type 0
AreBytes [] = Unit {0}
AreBytes (came k bytes ∷ events) = IsBytes bytes × AreBytes events
AreBytes (e ∷ events) = AreBytes events

-- the world after events
abbrev pub history : World → List Event → World
history w events = fold (λ (v : World) (e : Event). (step v e).world) w events

-- what one connection was handed in all steps
abbrev pub handed : ℕ → World → List Event → List Sent
handed k w [] = []
handed k w (e ∷ events) = to k (step w e).out ++ handed k (step w e).world events

-- as bytes
abbrev pub stream : ℕ → World → List Event → List ℕ
stream k w events = bytes_of (handed k w events)

-- what a connection is owed
abbrev pub owed_of : Option Link → List ℕ
owed_of None = []
owed_of (Some l) = l.owed

abbrev pub owed_in : ℕ → World → List ℕ
owed_in k w = owed_of (get w.links k)

-- what it took: each time the first bytes of what it was owed
abbrev pub taken_at : ℕ → World → Event → List ℕ
taken_at k w (took j n) = if j == k then take n (owed_in k w) else []
taken_at k w e = []

abbrev pub taken : ℕ → World → List Event → List ℕ
taken k w [] = []
taken k w (e ∷ events) = taken_at k w e ++ taken k (step w e).world events

-- what was lost: what it was owed when it left, or when a write to it broke
abbrev pub lost_at : ℕ → World → Event → List ℕ
lost_at k w (left j) = if j == k then owed_in k w else []
lost_at k w (broke j) = if j == k then owed_in k w else []
lost_at k w e = []

abbrev pub lost : ℕ → World → List Event → List ℕ
lost k w [] = []
lost k w (e ∷ events) = lost_at k w e ++ lost k (step w e).world events

-- the bytes that came from a connection while it was there
abbrev pub received_at : ℕ → World → Event → List ℕ
received_at k w (came j bytes) = if j == k && is_some (get w.links k) then bytes else []
received_at k w e = []

abbrev pub received : ℕ → World → List Event → List ℕ
received k w [] = []
received k w (e ∷ events) = received_at k w e ++ received k (step w e).world events

-- the cause that is kept of a connection
abbrev pub cause_in : ℕ → World → Option Cause
cause_in k w = option_and_then (λ (l : Link). l.cause) (get w.links k)

-- why a connection was closed: the cause that it had after the first step that closed it
abbrev pub why : ℕ → World → List Event → Option Cause
why k w [] = None
why k w (e ∷ events) = first_of (cause_in k (step w e).world) (why k (step w e).world events)
