-- How a map from numbers is kept: rows whose numbers rise. Where a number stands in them, or would
-- go.
use Rattle.std.specs.Prelude.{◌≡◌, ℕ, ◌<◌, ◌≤◌, List, length, slice_index_or, T}
use Rattle.std.specs.declared.cmp.Ordering.TheVariants.{Less, Greater}
use Rattle.std.specs.Ordering.{int_cmp}
use Rattle.std.specs.FinMap.{is_sorted}
use lib.IntN.{ℤ}

abbrev pub IsRising : {X : Type 0} → List (ℤ × X) → Type 0
IsRising rows = T (is_sorted int_cmp rows)

-- the number stands there
pub record IsAt {X : Type 0} (rows : List (ℤ × X)) (eid : ℤ) (i : ℕ) : Type 0 where
  pub within : i < length rows
  pub named : (d : ℤ × X) → (slice_index_or rows i d).0 ≡ eid

-- it would go there: lower numbers before it, and higher ones from there on
pub record IsGap {X : Type 0} (rows : List (ℤ × X)) (eid : ℤ) (i : ℕ) : Type 0 where
  pub within : i ≤ length rows
  pub lower : (j : ℕ) (d : ℤ × X) → j < i → int_cmp (slice_index_or rows j d).0 eid ≡ Less
  pub higher : (j : ℕ) (d : ℤ × X) → i ≤ j → j < length rows →
      int_cmp (slice_index_or rows j d).0 eid ≡ Greater
