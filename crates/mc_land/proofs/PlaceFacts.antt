-- A cell is where its column and its index in it say.
use Rattle.std.proofs.Common.{◌≡◌, ℕ, ◌/◌, ◌%◌, ◌<◌, refl, arith}
use Rattle.std.proofs.lemmas.Bool.Decides.{nat_tests}
use Rattle.std.proofs.lemmas.Int.{ints}
use Rattle.mc_column.specs.Sizes.{cells}
use Rattle.mc_column.specs.SizesLaws.{cells-is}
use Rattle.mc_column.specs.Cells.{cell_index}
use Rattle.mc_land.specs.declared.terrain.Terrain.{Terrain}
use Rattle.mc_land.specs.Places.{Place, column_number, inside, key_of, x_of, y_of, z_of}
use Rattle.mc_land.specs.Terrain.{terrain_state}
use Rattle.mc_land.specs.Land.{terrain_at}
use lib.IntN.{ℤ, pos, negsuc, ◌+ℤ◌, ◌*ℤ◌}

inside_below : (v : ℤ) → inside v < 16
inside_below (pos n) = omega arith
inside_below (negsuc n) = omega arith

-- a number is 16 times its column and what is inside it
parts : (v : ℤ) → column_number v *ℤ pos 16 +ℤ pos (inside v) ≡ v
parts (pos n) = omega (arith, ints)
parts (negsuc n) = omega (arith, ints)

pub y_back : (x y z : ℕ) → x < 16 → z < 16 → cell_index x y z / 256 ≡ y
y_back x y z a b = omega arith

x_back : (x y z : ℕ) → x < 16 → z < 16 → cell_index x y z % 16 ≡ x
x_back x y z a b = omega arith

z_back : (x y z : ℕ) → x < 16 → z < 16 → cell_index x y z / 16 % 16 ≡ z
z_back x y z a b = omega arith

pub x_of_key : (x z : ℤ) (y : ℕ) → x_of (key_of x y z) ≡ x
x_of_key x z y = rw (x_back (inside x) y (inside z) (inside_below x) (inside_below z)) (parts x)

pub z_of_key : (x z : ℤ) (y : ℕ) → z_of (key_of x y z) ≡ z
z_of_key x z y = rw (z_back (inside x) y (inside z) (inside_below x) (inside_below z)) (parts z)

pub y_of_key : (x z : ℤ) (y : ℕ) → y_of (key_of x y z) ≡ y
y_of_key x z y = y_back (inside x) y (inside z) (inside_below x) (inside_below z)

-- the terrain at a cell's key is that at the cell
pub terrain_at_key : (terrain : Terrain) (x z : ℤ) (y : ℕ) → terrain_at terrain (key_of x y z) ≡
    terrain_state terrain x y z
terrain_at_key terrain x z y = rw (x_of_key x z y, y_of_key x z y, z_of_key x z y) refl

-- the terrain at a cell of a column, by its place in that
pub terrain_inside : (terrain : Terrain) (place : Place) (x y z : ℕ) (east south : ℤ) → x < 16 →
    z < 16 → east ≡ place.0 *ℤ pos 16 +ℤ pos x → south ≡ place.1 *ℤ pos 16 +ℤ pos z →
    terrain_state terrain east y south ≡ terrain_at terrain (place, cell_index x y z)
terrain_inside terrain place x y z east south a b e f = grind (arith, nat_tests)

pub key_within : (x z : ℤ) (y : ℕ) → y < 256 → (key_of x y z).1 < cells
key_within x z y lt = let a = inside_below x in let b = inside_below z in rw cells-is (omega arith)
