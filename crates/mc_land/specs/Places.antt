-- Where a cell lies: the numbers of its column of cells, and its index in it. The order of places
-- is that of their numbers, x first.
use Rattle.std.specs.Prelude.{Bool, false, nat_lt, nat_le, ◌&&◌, ℕ, ◌/◌, ◌%◌, unsigned_abs}
use Rattle.std.specs.declared.cmp.Ordering.{Ordering}
use Rattle.std.specs.Ordering.{nat_cmp, int_cmp, ordering_then}
use Rattle.std.specs.Int.{int_div_euclid, int_rem_euclid}
use Rattle.mc_column.specs.Cells.{cell_index}
pub use Rattle.mc_column.specs.Places.{Place}
use Rattle.mc_land.specs.declared.places.TheConstants.{BORDER, COLUMN_BORDER}
use lib.IntN.{ℤ, pos, negsuc, neg_ℤ, ◌+ℤ◌, ◌*ℤ◌}
use lib.Signed.{◌≤ℤ◌}

-- a cell: its column, and y * 256 + z * 16 + x in that
abbrev pub Key : Type 0
Key = Place × ℕ

abbrev pub place_cmp : Place → Place → Ordering
place_cmp a b = ordering_then (int_cmp a.0 b.0) (int_cmp a.1 b.1)

abbrev pub key_cmp : Key → Key → Ordering
key_cmp a b = ordering_then (place_cmp a.0 b.0) (nat_cmp a.1 b.1)

-- which sixteen cells along an axis
abbrev pub column_number : ℤ → ℤ
column_number v = int_div_euclid v (pos 16)

-- which of those sixteen
abbrev pub inside : ℤ → ℕ
inside v = unsigned_abs (int_rem_euclid v (pos 16))

abbrev pub place_of : ℤ → ℤ → Place
place_of x z = (column_number x, column_number z)

-- the cell at x, y and z, where y is from 0 to 255
abbrev pub key_of : ℤ → ℕ → ℤ → Key
key_of x y z = (place_of x z, cell_index (inside x) y (inside z))

-- x, y and z of a cell
abbrev pub x_of : Key → ℤ
x_of key = key.0.0 *ℤ pos 16 +ℤ pos (key.1 % 16)

abbrev pub y_of : Key → ℕ
y_of key = key.1 / 256

abbrev pub z_of : Key → ℤ
z_of key = key.0.1 *ℤ pos 16 +ℤ pos (key.1 / 16 % 16)

-- columns within 30,000,160 blocks of the middle, of which the calls of a land may be told
pub record IsPlace (place : Place) : Type 0 where
  pub cx_low : neg_ℤ (pos COLUMN_BORDER) ≤ℤ place.0
  pub cx_high : place.0 ≤ℤ pos COLUMN_BORDER
  pub cz_low : neg_ℤ (pos COLUMN_BORDER) ≤ℤ place.1
  pub cz_high : place.1 ≤ℤ pos COLUMN_BORDER

-- the world of cells that can be set: y from 0 to 255, and x and z not past 30,000,000 in size
abbrev pub is_height : ℤ → Bool
is_height (pos n) = nat_lt n 256
is_height (negsuc n) = false

abbrev pub is_within_border : ℤ → Bool
is_within_border v = nat_le (unsigned_abs v) BORDER

abbrev pub is_inside : ℤ → ℤ → ℤ → Bool
is_inside x y z = is_height y && is_within_border x && is_within_border z
