-- The bounds of a view's columns along one axis, in 1/32 blocks.
use Rattle.std.specs.Prelude.{◌≡◌, ℕ}
use lib.IntN.{ℤ, pos, ◌+ℤ◌, ◌-ℤ◌, ◌*ℤ◌}

-- of the columns that are at most so many off a middle: the first place, and the first past them
pub record IsBound (middle : ℤ) (d : ℕ) (low past : ℤ) : Type 0 where
  pub low_is : low ≡ (middle -ℤ pos d) *ℤ pos 512
  pub past_is : past ≡ (middle +ℤ pos d +ℤ pos 1) *ℤ pos 512
