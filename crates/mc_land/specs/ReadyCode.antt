-- How the code changes ready columns: one of all of them, and its list of touched cells. No public
-- contract speaks of this.
use Rattle.std.specs.Prelude.{◌≡◌, ℕ, zero, suc, false, ◌==◌, ◌<◌, Bool, List, [], ◌∷◌, ◌++◌}
use Rattle.std.specs.Prelude.{length, slice_index_or, if◌then◌else◌}
use Rattle.std.specs.Ordering.{eq_by_cmp}
use Rattle.mc_land.specs.declared.ready.Touched.{Touched}
use Rattle.mc_land.specs.Places.{Place, place_cmp}
use Rattle.mc_land.specs.Ready.{ReadyValue, set_cell}

-- a cell, or none
abbrev pub one_if : Bool → Touched → List Touched
one_if b cell = if b then cell ∷ [] else []

-- touched cells around a cell, which is one of them or not
pub record IsAround (touched low high : List Touched) (known : Bool) (cell : Touched) : Type 0 where
  pub parts : touched ≡ low ++ (one_if known cell ++ high)
  pub low_below : (i : ℕ) (d : Touched) → i < length low → (slice_index_or low i d).index <
      cell.index
  pub high_above : (i : ℕ) (d : Touched) → i < length high →
      cell.index < (slice_index_or high i d).index

-- the touched cell at a place has this index
abbrev pub is_at : List Touched → ℕ → ℕ → Bool
is_at [] at index = false
is_at (cell ∷ others) zero index = cell.index == index
is_at (cell ∷ others) (suc at) index = is_at others at index

-- of all ready columns the one of a place, changed
abbrev pub changed_at : Place → (ReadyValue → ReadyValue) → ReadyValue → ReadyValue
changed_at place f ready = if eq_by_cmp place_cmp ready.place place then f ready else ready

-- with another state in a cell
abbrev pub set_at : Place → ℕ → ℕ → ReadyValue → ReadyValue
set_at place i state ready = changed_at place (λ r. set_cell r i state) ready
