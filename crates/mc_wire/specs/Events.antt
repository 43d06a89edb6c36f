-- What a lobby in memory gives of the entries that it was made from (a rule of this project).
use Rattle.std.specs.Prelude.{◌≡◌, ℕ, ◌+◌, ◌<◌, ◌≤◌, List, [], ◌∷◌, ◌++◌, length, take, drop, min}
use Rattle.mc_wire.specs.declared.answers.Event.{Event}
use Rattle.mc_wire.specs.declared.answers.Event.TheVariants.{Join, Bytes, Gone, Tick, End}
use Rattle.mc_wire.specs.declared.log.LogEntry.{LogEntry}
use Rattle.mc_wire.specs.declared.log.LogEntry.TheVariants.{Joined, Came, Left, Ticked}

-- the entries are events: the numbers of those that join rise, from this one on, what came has a
-- byte at least, and none is something that a lobby did
abbrev pub AreEvents : ℕ → List LogEntry → Type 0
AreEvents least [] = Unit {0}
AreEvents least (Joined k ∷ rest) = (least ≤ k) × AreEvents (k + 1) rest
AreEvents least (Came k bytes ∷ rest) = (0 < length bytes) × AreEvents least rest
AreEvents least (Left k ∷ rest) = AreEvents least rest
AreEvents least (Ticked ∷ rest) = AreEvents least rest
AreEvents least (other ∷ rest) = ⊥

-- the bytes of a connection that are not given yet, as an entry; none where they all are
abbrev pub still_came : ℕ → List ℕ → List LogEntry
still_came k [] = []
still_came k (byte ∷ bytes) = Came k (byte ∷ bytes) ∷ []

-- the buffer has as many first bytes of what came as it can hold, and the rest of them stay first
pub record GivesBytes (k n : ℕ) (buf_old buf_new : List ℕ) (left_old left_new : List LogEntry) :
    Type 0 where
  pub bytes : List ℕ
  pub later : List LogEntry
  pub came : left_old ≡ Came k bytes ∷ later
  pub many : n ≡ min (length buf_old) (length bytes)
  pub given : buf_new ≡ take n bytes ++ drop n buf_old
  pub stay : left_new ≡ still_came k (drop n bytes) ++ later

-- the event is the first that is left, and the end where none is
abbrev pub IsNextEvent : Event → List ℕ → List ℕ → List LogEntry → List LogEntry → Type 0
IsNextEvent (Join k) buf_old buf_new left_old left_new =
    (left_old ≡ Joined k ∷ left_new) × (buf_new ≡ buf_old)
IsNextEvent (Bytes k n) buf_old buf_new left_old left_new =
    GivesBytes k n buf_old buf_new left_old left_new
IsNextEvent (Gone k) buf_old buf_new left_old left_new =
    (left_old ≡ Left k ∷ left_new) × (buf_new ≡ buf_old)
IsNextEvent Tick buf_old buf_new left_old left_new =
    (left_old ≡ Ticked ∷ left_new) × (buf_new ≡ buf_old)
IsNextEvent End buf_old buf_new left_old left_new =
    (left_old ≡ []) × (left_new ≡ []) × (buf_new ≡ buf_old)

-- the least number that the next one to join may have, after an event
abbrev pub least_after : Event → ℕ → ℕ
least_after (Join k) least = k + 1
least_after other least = least
