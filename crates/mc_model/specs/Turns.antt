-- The turns in which connections are served over a lobby: what happens, what is written after it,
-- and who is closed then. Rules of this project.
use Rattle.std.specs.Prelude.{◌≡◌, ◌≢◌, ◌⊎◌, ◌+◌, ◌<◌, ◌≤◌, ℕ, List, [], ◌∷◌, ◌++◌, length, map}
use Rattle.std.specs.Prelude.{take}
use Rattle.std.specs.List.{Contains, filter}
use Rattle.std.specs.FinMap.{entries}
use Rattle.mc_bytes.specs.Reading.{IsBytes}
use Rattle.mc_wire.specs.declared.log.LogEntry.{LogEntry}
use Rattle.mc_wire.specs.declared.log.LogEntry.TheVariants.{Joined, Came, Left, Ticked, Put}
use Rattle.mc_wire.specs.declared.log.LogEntry.TheVariants.{Stalled, Broke, Closed}
use Rattle.mc_model.specs.Link.{Link, is_done}
use Rattle.mc_model.specs.World.{World}
use Rattle.mc_model.specs.Run.{owed_in}
use Rattle.mc_model.specs.Log.{logged}

-- the most bytes of one write
abbrev pub piece_max : ℕ
piece_max = 65536

-- what a lobby gives: a join, bytes, a leaving, a tick
abbrev pub Happens : LogEntry → Type 0
Happens (Joined k) = Unit {0}
Happens (Came k bytes) = (0 < length bytes) × IsBytes bytes
Happens (Left k) = Unit {0}
Happens Ticked = Unit {0}
Happens other = ⊥

-- Writes go to connections in rising numbers, from one number on. One is written to as often as it
-- takes something, and no more once a write to it stalled or broke.
abbrev pub Rises : ℕ → List LogEntry → Type 0
Rises least [] = Unit {0}
Rises least (Put k bytes ∷ later) = (least ≤ k) × Rises k later
Rises least (Stalled k ∷ later) = (least ≤ k) × Rises (k + 1) later
Rises least (Broke k ∷ later) = (least ≤ k) × Rises (k + 1) later
Rises least (other ∷ later) = ⊥

-- what a write comes to: some first bytes of what a connection is owed are put to it, or it is owed
-- something and the write stalls or breaks
abbrev pub IsWrite : World → LogEntry → Type 0
IsWrite w (Put k bytes) =
    (0 < length bytes) × (length bytes ≤ piece_max) × (take (length bytes) (owed_in k w) ≡ bytes)
IsWrite w (Stalled k) = owed_in k w ≢ []
IsWrite w (Broke k) = owed_in k w ≢ []
IsWrite w other = ⊥

-- writes one after another, each in the world that those before it left
abbrev pub AreWrites : World → List LogEntry → Type 0
AreWrites w [] = Unit {0}
AreWrites w (write ∷ later) = IsWrite w write × AreWrites (logged w (write ∷ [])) later

-- the numbers of those that are closed and owed nothing, which rise
abbrev pub done_in : World → List ℕ
done_in w = map (λ (e : ℕ × Link). e.0) (filter (λ (e : ℕ × Link). is_done e.1) (entries w.links))

-- A turn: something happens; each connection that is owed something is written to until it is owed
-- nothing or a write stalls; and then exactly those are closed that are closed in the world and
-- owed nothing.
pub record IsTurn (w : World) (turn : List LogEntry) : Type 0 where
  pub event : LogEntry
  pub writes : List LogEntry
  pub parts : turn ≡ event ∷ writes ++ map Closed (done_in (logged w (event ∷ writes)))
  pub happens : Happens event
  pub are_writes : AreWrites (logged w (event ∷ [])) writes
  pub rises : Rises 0 writes
  pub served : (k : ℕ) →
      (owed_in k (logged w (event ∷ writes)) ≡ []) ⊎ Contains writes (Stalled k)

-- turns one after another
abbrev pub AreTurns : World → List (List LogEntry) → Type 0
AreTurns w [] = Unit {0}
AreTurns w (turn ∷ later) = IsTurn w turn × AreTurns (logged w turn) later
