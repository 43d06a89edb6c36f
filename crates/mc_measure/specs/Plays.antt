-- What playing events makes of a server, and how many bytes are taken then. Rules of this project.
use Rattle.std.specs.Prelude.{◌≡◌, ℕ, ◌+◌, ◌-◌, ◌^◌, List, [], ◌∷◌, length, take}
use Rattle.mc_model.specs.Run.{AreBytes, owed_in}
use Rattle.mc_model.specs.Step.{Event, took, step}
use Rattle.mc_model.specs.World.{World}
use Rattle.mc_server.specs.Minded.{ServedValue, StandsFor}
use Rattle.mc_measure.specs.Settling.{NeverFull, settled_log, settled_world, taken}

-- how many bytes are taken in an event, and in all of them, whoever takes them
abbrev pub taken_at : World → Event → ℕ
taken_at w (took k n) = length (take n (owed_in k w))
taken_at w other = 0

abbrev pub bytes_taken : World → List Event → ℕ
bytes_taken w [] = 0
bytes_taken w (e ∷ events) = taken_at w e + bytes_taken (step w e).world events

-- the most that are counted for one event: no memory holds more bytes
abbrev pub event_most : ℕ
event_most = 2 ^ 64 - 1

-- how many bytes connections take, each all that it is owed
abbrev pub each_owed : List ℕ → World → ℕ
each_owed [] w = 0
each_owed (k ∷ ks) w = length (owed_in k w) + each_owed ks (taken k w)

-- what came in events are bytes, the server stands with its minds for the world after them, so many
-- bytes were taken, and no outbox was too small
pub record HasPlayed (events : List Event) (w : World) (served : ServedValue) (count : ℕ)
    : Type 0 where
  pub bytes : AreBytes events
  pub stands : StandsFor served (settled_world w events)
  pub counted : count ≡ bytes_taken w (settled_log w events)
  pub clear : NeverFull w (settled_log w events)
