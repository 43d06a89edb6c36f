-- A column of the terrain's own cells.
use Rattle.std.specs.Prelude.{ℕ, ◌/◌, ◌%◌, map}
use Rattle.std.specs.List.{range_with_len}
use Rattle.mc_column.specs.Sizes.{cells}
use Rattle.mc_column.specs.Cells.{ColumnValue}
use Rattle.mc_land.specs.declared.terrain.Terrain.{Terrain}
use Rattle.mc_land.specs.Places.{Place}
use Rattle.mc_land.specs.Land.{terrain_at, biomes_of}
use lib.IntN.{ℤ, pos, ◌+ℤ◌, ◌*ℤ◌}

-- the column as nobody has changed it
abbrev pub own_column : Terrain → Place → ColumnValue
own_column terrain place =
    record {
      states = map (λ i. terrain_at terrain (place, i)) (range_with_len 0 cells);
      biomes = biomes_of terrain place;
    }

-- x and z of place i of a layer
abbrev pub x_at : Place → ℕ → ℤ
x_at place i = place.0 *ℤ pos 16 +ℤ pos (i % 16)

abbrev pub z_at : Place → ℕ → ℤ
z_at place i = place.1 *ℤ pos 16 +ℤ pos (i / 16)
