-- A square gone through row by row.
use Rattle.std.proofs.Common.{◌≡◌, ℕ, suc, ◌+◌, ◌-◌, ◌*◌, ◌<◌, [], ◌∷◌, map, sym, ap}
use Rattle.std.proofs.Common.{◌∙◌, arith}
use Rattle.std.proofs.lemmas.Bool.Decides.{nat_tests}
use Rattle.std.specs.List.{flat_map}
use lib.IntN.{ℤ, pos, ◌+ℤ◌, ◌-ℤ◌}
use Rattle.mc_view.specs.Views.{run_of, view_of}
use Rattle.mc_view.specs.Squares.{run_from, row_of, rest_of}

-- in a row
pub in_row : (west north : ℤ) (side row left at : ℕ) →
    at < side →
    rest_of west north side row left at ≡
    (west +ℤ pos row, north +ℤ pos at) ∷ rest_of west north side row left (at + 1)
in_row west north side row left at lt = grind (arith, nat_tests)

-- rows, before the first of which nothing is gone through
rows_begin : (west north : ℤ) (side row left k : ℕ) →
    left ≡ suc k →
    flat_map (row_of (run_from north 0 side)) (run_from west row left) ≡
    rest_of west north side row k 0
rows_begin west north side row left k e = grind (arith, nat_tests)

-- over the end of a row
pub over_row : (west north : ℤ) (side row left at : ℕ) →
    at + 1 ≡ side → 0 < left →
    rest_of west north side row left at ≡
    (west +ℤ pos row, north +ℤ pos at) ∷ rest_of west north side (row + 1) (left - 1) 0
over_row west north side row left at end some = grind (arith, nat_tests)

-- behind the last row
pub all_done : (west north : ℤ) (side row left at : ℕ) →
    at ≡ side → left ≡ 0 → rest_of west north side row left at ≡ []
all_done west north side row left at end none = grind (arith, nat_tests)

-- before the first
pub all_rows : (west north : ℤ) (side left : ℕ) →
    side ≡ suc left →
    flat_map (λ x. map (λ z. (x, z)) (run_of north side)) (run_of west side) ≡
    rest_of west north side 0 left 0
all_rows west north side left e = rows_begin west north side 0 side left e

-- all rows of a view
pub whole_view : (cx cz west north : ℤ) (d side left : ℕ) →
    west ≡ cx -ℤ pos d → north ≡ cz -ℤ pos d →
    side ≡ 2 * d + 1 → left + 1 ≡ side → rest_of west north side 0 left 0 ≡ view_of (cx, cz) d
unfolding view_of
whole_view cx cz west north d side left west_is north_is side_is left_is =
    let more : side ≡ suc left = omega (arith, left_is) in
    sym (all_rows west north side left more)
    ∙ ap (λ (x : ℤ). flat_map (λ x. map (λ z. (x, z)) (run_of north side)) (run_of x side)) west_is
    ∙ ap (λ (z : ℤ). flat_map (λ x. map (λ z. (x, z)) (run_of z side)) (run_of (cx -ℤ pos d) side))
    north_is
    ∙ ap (λ (n : ℕ). flat_map (λ x. map (λ z. (x, z)) (run_of (cz -ℤ pos d) n))
    (run_of (cx -ℤ pos d) n)) side_is
