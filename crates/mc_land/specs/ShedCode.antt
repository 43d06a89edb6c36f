-- How the code sheds columns: one after another from the last. No public contract speaks of this.
use Rattle.std.specs.Prelude.{◌≡◌, ℕ, ◌<◌, ◌≤◌, Bool, true, false, ◌==◌, not, ◌||◌, ◌⊎◌, List}
use Rattle.std.specs.Prelude.{length, slice_index_or, Some, None}
use Rattle.std.specs.List.{swap_remove}
use Rattle.std.specs.FinMap.{find}
use Rattle.mc_land.specs.Places.{Place, place_cmp}
use Rattle.mc_land.specs.KeptLand.{placed}
use Rattle.mc_land.specs.Ready.{ReadyValue}
use Rattle.mc_land.specs.Sums.{changes_in}
use Rattle.mc_land.specs.Shed.{View, is_seen}

-- a column stays: a cell of it is an edit, or a view reaches it
abbrev pub is_kept : List View → ReadyValue → Bool
is_kept views ready = not (changes_in ready == 0) || is_seen views ready.place

-- so many columns, from the first on, stay
abbrev pub AreKept : List View → List ReadyValue → ℕ → Type 0
AreKept views columns n = (k : ℕ) (d : ReadyValue) → k < n →
    is_kept views (slice_index_or columns k d) ≡ true

-- a column that stays is there as it was, and no other is there
pub record IsShed (views : List View) (old new : List ReadyValue) : Type 0 where
  pub none : (q : Place) → find place_cmp q (placed old) ≡ None → find place_cmp q (placed new) ≡
      None
  pub kept : (q : Place) (ready : ReadyValue) → find place_cmp q (placed old) ≡ Some ready →
      is_kept views ready ≡ true → find place_cmp q (placed new) ≡ Some ready
  pub gone : (q : Place) (ready : ReadyValue) → find place_cmp q (placed old) ≡ Some ready →
      is_kept views ready ≡ false → find place_cmp q (placed new) ≡ None

-- the columns from i on stay, each that stays is there as it was, and those before i were not looked
-- at
pub record AreShed (views : List View) (old new : List ReadyValue) (i : ℕ) : Type 0 where
  pub within : i ≤ length new
  pub none : (q : Place) → find place_cmp q (placed old) ≡ None → find place_cmp q (placed new) ≡
      None
  pub kept : (q : Place) (r : ReadyValue) → find place_cmp q (placed old) ≡ Some r →
      is_kept views r ≡ true → find place_cmp q (placed new) ≡ Some r
  pub either : (q : Place) (r : ReadyValue) → find place_cmp q (placed old) ≡ Some r →
      (find place_cmp q (placed new) ≡ Some r) ⊎ (find place_cmp q (placed new) ≡ None)
  pub stay : (k : ℕ) (d : ReadyValue) → i ≤ k → k < length new →
      is_kept views (slice_index_or new k d) ≡ true
  pub before : (k : ℕ) (d : ReadyValue) → k < i → slice_index_or new k d ≡ slice_index_or old k d

-- the column at i was taken away, and no other
pub record IsTakenAway (old new : List ReadyValue) (i : ℕ) (d : ReadyValue) : Type 0 where
  pub is : new ≡ swap_remove old i d
  pub others : (q : Place) → (q ≡ (slice_index_or old i d).place → ⊥) →
      find place_cmp q (placed new) ≡ find place_cmp q (placed old)
  pub gone : (q : Place) → q ≡ (slice_index_or old i d).place → find place_cmp q (placed new) ≡ None
