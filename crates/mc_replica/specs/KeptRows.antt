-- Rows of rising keys, each with its value: how a finite map is kept. Where a key stands in them,
-- or would go.
use Rattle.std.specs.Prelude.{◌≡◌, ℕ, ◌<◌, ◌≤◌, List, length, slice_index_or, T}
use Rattle.std.specs.declared.cmp.Ordering.{Ordering}
use Rattle.std.specs.declared.cmp.Ordering.TheVariants.{Less, Greater}
use Rattle.std.specs.FinMap.{is_sorted}

abbrev pub IsRising : {K X : Type 0} → (K → K → Ordering) → List (K × X) → Type 0
IsRising R rows = T (is_sorted R rows)

-- the key stands there
pub record IsAt {K X : Type 0} (rows : List (K × X)) (key : K) (i : ℕ) : Type 0 where
  pub within : i < length rows
  pub named : (d : K × X) → (slice_index_or rows i d).0 ≡ key

-- it would go there: lower keys before it, and higher ones from there on
pub record IsGap {K X : Type 0} (R : K → K → Ordering) (rows : List (K × X)) (key : K) (i : ℕ)
    : Type 0 where
  pub within : i ≤ length rows
  pub lower : (j : ℕ) (d : K × X) → j < i → R (slice_index_or rows j d).0 key ≡ Less
  pub higher : (j : ℕ) (d : K × X) → i ≤ j → j < length rows →
      R (slice_index_or rows j d).0 key ≡ Greater
