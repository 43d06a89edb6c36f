-- The columns around a player that its client is shown. Rules of this project.
use Rattle.std.specs.Prelude.{ℕ, max, min, ◌+◌, ◌*◌, List, map}
use Rattle.std.specs.List.{flat_map, range_with_len}
use Rattle.std.specs.Int.{int_div_euclid}
use lib.IntN.{ℤ, pos, negsuc, ◌+ℤ◌, ◌-ℤ◌}
use Rattle.mc_column.specs.Places.{Place}
pub use Rattle.mc_column.specs.Places.{is_in_view}
use Rattle.mc_fields.specs.declared.position.Spot.{Spot}

-- n whole numbers, from one on
abbrev pub run_of : ℤ → ℕ → List ℤ
run_of first n = map (λ i. first +ℤ pos i) (range_with_len 0 n)

-- all columns of a view, in the order of their places
unfoldable pub view_of : Place → ℕ → List Place
view_of middle d =
    flat_map (λ x. map (λ z. (x, z)) (run_of (middle.1 -ℤ pos d) (2 * d + 1)))
    (run_of (middle.0 -ℤ pos d) (2 * d + 1))

-- the column of a place in 1/32 blocks
abbrev pub column_of_spot : Spot → Place
column_of_spot spot = (int_div_euclid spot.x (pos 512), int_div_euclid spot.z (pos 512))

-- how far a client is shown columns: what it asked for, held to 2 and the most that the server
-- gives
abbrev pub view_size : ℕ → ℤ → ℕ
view_size cap (pos n) = max 2 (min n cap)
view_size cap (negsuc n) = 2
