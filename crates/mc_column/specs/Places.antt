-- Which column of cells is meant, and which are near another (rules of this project).
use Rattle.std.specs.Prelude.{ℕ, Bool, ◌&&◌, nat_le, unsigned_abs}
use lib.IntN.{ℤ, ◌-ℤ◌}

-- a column of cells, by its numbers cx and cz: the cells from 16 cx and 16 cz on
abbrev pub Place : Type 0
Place = ℤ × ℤ

-- a column is at most d columns off the middle on each axis
abbrev pub is_in_view : Place → ℕ → Place → Bool
is_in_view middle d place =
    nat_le (unsigned_abs (place.0 -ℤ middle.0)) d && nat_le (unsigned_abs (place.1 -ℤ middle.1)) d
