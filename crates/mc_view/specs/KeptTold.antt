-- How a tracker keeps what a client was told: a list of entries whose numbers rise. Where a number
-- stands in it, or would go.
use Rattle.std.specs.Prelude.{◌≡◌, ℕ, ◌-◌, ◌<◌, ◌≤◌, List, map, length, slice_index_or, T}
use Rattle.std.specs.declared.cmp.Ordering.TheVariants.{Less, Greater}
use Rattle.std.specs.Ordering.{int_cmp}
use Rattle.std.specs.FinMap.{is_sorted, from_sorted}
use lib.IntN.{ℤ}
use Rattle.mc_fields.specs.declared.position.Spot.{Spot}
use Rattle.mc_slots.specs.declared.pile.Pile.{Pile}
use Rattle.mc_view.specs.declared.tracker.Entry.{Entry}
use Rattle.mc_view.specs.Told.{Told}

abbrev pub pair_of : Entry → ℤ × (Spot × Pile)
pair_of entry = (entry.eid, (entry.spot, entry.pile))

abbrev pub pairs_of : List Entry → List (ℤ × (Spot × Pile))
pairs_of entries = map pair_of entries

abbrev pub numbers_of : List Entry → List ℤ
numbers_of entries = map (λ (pair : ℤ × (Spot × Pile)). pair.0) (pairs_of entries)

abbrev pub IsRising : List Entry → Type 0
IsRising entries = T (is_sorted int_cmp (pairs_of entries))

abbrev pub told_of : List Entry → Told
told_of entries = from_sorted (pairs_of entries)

-- the number stands there
pub record IsAt (entries : List Entry) (eid : ℤ) (i : ℕ) : Type 0 where
  pub within : i < length entries
  pub named : (d : Entry) → (slice_index_or entries i d).eid ≡ eid

-- it would go there: lower numbers before it, and higher ones from there on
pub record IsGap (entries : List Entry) (eid : ℤ) (i : ℕ) : Type 0 where
  pub within : i ≤ length entries
  pub lower : (j : ℕ) (d : Entry) → j < i → int_cmp (slice_index_or entries j d).eid eid ≡ Less
  pub higher : (j : ℕ) (d : Entry) → i ≤ j → j < length entries →
      int_cmp (slice_index_or entries j d).eid eid ≡ Greater

-- the number before a place is lower, and that at it is higher, where there is one
abbrev pub IsAbove : List Entry → ℤ → ℕ → Type 0
IsAbove entries eid i = (d : Entry) → 0 < i →
    int_cmp (slice_index_or entries (i - 1) d).eid eid ≡ Less

abbrev pub IsBelow : List Entry → ℤ → ℕ → Type 0
IsBelow entries eid i = (d : Entry) → i < length entries →
    int_cmp (slice_index_or entries i d).eid eid ≡ Greater
