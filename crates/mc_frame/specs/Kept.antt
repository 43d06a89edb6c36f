-- How a splitter and an outbox keep what contracts see.
use Rattle.std.specs.Prelude.{ℕ, ◌+◌, ◌-◌, ◌*◌, ◌^◌, ◌<◌, ◌≤◌, ◌≡◌, List, [], ◌∷◌, ◌++◌, length}
use Rattle.std.specs.Prelude.{drop, Option, Some, None}
use Rattle.std.specs.List.{flat_map}
use Rattle.mc_frame.specs.declared.fault.FrameFault.{FrameFault}
use Rattle.mc_frame.specs.declared.outbox.TheConstants.{OUTBOX_MAX, SHARED_MIN}
use Rattle.mc_frame.specs.Cut.{Ends}
use Rattle.mc_frame.specs.Splitting.{held_max}

-- a fault that was met is that of the held bytes
abbrev pub IsMet : ℕ → List ℕ → Option FrameFault → Type 0
IsMet before held None = Unit {0}
IsMet before held (Some fault) = Ends before held (Some fault)

-- the held bytes stand in the buffer from a place on
pub record IsKeptSplitter (buffer : List ℕ) (start before : ℕ) (fault : Option FrameFault) : Type 0
  where
    pub within : start ≤ length buffer
    pub few : length buffer - start ≤ held_max
    pub counted : before < 2 ^ 64
    pub met : IsMet before (drop start buffer) fault

-- ---- outboxes

-- the most bytes that an outbox holds
abbrev pub outbox_max : ℕ
outbox_max = OUTBOX_MAX

-- the least bytes of a piece that is kept as it was pushed
abbrev pub shared_min : ℕ
shared_min = SHARED_MIN

abbrev pub joined : List (List ℕ) → List ℕ
joined pieces = flat_map (λ piece. piece) pieces

-- the bytes of the pieces, and behind them those of small ones that were joined
abbrev pub kept_bytes : List (List ℕ) → List ℕ → List ℕ
kept_bytes [] small = small
kept_bytes (piece ∷ pieces) small = piece ++ kept_bytes pieces small

-- so many bytes of the first piece are gone, and not all; of the joined ones, where there is no
-- other, all only where there are none
abbrev pub IsInFirst : ℕ → List (List ℕ) → List ℕ → Type 0
IsInFirst at [] small = at ≤ length small - 1
IsInFirst at (piece ∷ pieces) small = at < length piece

-- no piece is empty, and none is longer than an outbox
abbrev pub ArePieces : List (List ℕ) → Type 0
ArePieces [] = Unit {0}
ArePieces (piece ∷ pieces) = (0 < length piece) × (length piece ≤ outbox_max) × ArePieces pieces

pub record IsKeptOutbox (pieces : List (List ℕ)) (small : List ℕ) (at len : ℕ) : Type 0 where
  pub in_first : IsInFirst at pieces small
  pub pieces_fit : ArePieces pieces
  -- the joined bytes were fewer than a piece that is kept before the last small one
  pub small_fit : length small < 2 * shared_min
  pub counted : length (kept_bytes pieces small) ≡ at + len
  pub few : len ≤ outbox_max
  pub near : at ≤ outbox_max
