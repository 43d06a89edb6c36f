-- What is left of a square of columns that is gone through row by row.
use Rattle.std.specs.Prelude.{◌≡◌, ℕ, ◌+◌, ◌-◌, ◌<◌, ◌≤◌, List, map, ◌++◌}
use Rattle.std.specs.List.{flat_map, range_with_len}
use lib.IntN.{ℤ, pos, negsuc, ◌+ℤ◌}
use lib.Signed.{◌≤ℤ◌}
use Rattle.mc_column.specs.Places.{Place}

-- n whole numbers, from the one that is so far from the first on
abbrev pub run_from : ℤ → ℕ → ℕ → List ℤ
run_from first at n = map (λ i. first +ℤ pos i) (range_with_len at n)

abbrev pub row_of : List ℤ → ℤ → List Place
row_of zs x = map (λ z. (x, z)) zs

-- the rest of a row, and the rows after it
abbrev pub rest_of : ℤ → ℤ → ℕ → ℕ → ℕ → ℕ → List Place
rest_of west north side row left at =
    row_of (run_from north at (side - at)) (west +ℤ pos row)
    ++ flat_map (row_of (run_from north 0 side)) (run_from west (row + 1) left)

pub record IsSquare (west north : ℤ) (side row left at : ℕ) : Type 0 where
  pub west_low : negsuc 1899999 ≤ℤ west
  pub west_high : west ≤ℤ pos 1900000
  pub north_low : negsuc 1899999 ≤ℤ north
  pub north_high : north ≤ℤ pos 1900000
  pub small : side ≤ 17
  pub rows : row + left < side
  pub within : at ≤ side
  -- all is behind only where no row comes
  pub ended : at ≡ side → left ≡ 0
