-- The three terrains: the state that each cell of the endless world has before anybody changed it,
-- and the biome of each place. Rules of this project. A state is id * 16 + metadata; the ids are
-- those of wiki.vg's list of blocks: 1 stone, 2 grass, 3 dirt, 7 bedrock. x and z are any whole
-- numbers, y is from 0 to 255.
use Rattle.std.specs.Prelude.{ℕ, unsigned_abs, ◌+◌, ◌*◌, ◌/◌, ◌%◌, ◌==◌, ◌&&◌, Bool, false, nat_lt}
use Rattle.std.specs.Prelude.{nat_le, if◌then◌else◌}
use Rattle.std.specs.Int.{abs_diff, int_rem_euclid}
use lib.IntN.{ℤ, pos, negsuc, ◌+ℤ◌}
use Rattle.mc_land.specs.declared.terrain.Terrain.{Terrain}
use Rattle.mc_land.specs.declared.terrain.Terrain.TheVariants.{Flat, Hills, Isle}

-- how far v is from the middle of its period of 2 * half: half at its ends, 0 in the middle
abbrev pub wave : ℤ → ℕ → ℕ
wave v half = abs_diff (unsigned_abs (int_rem_euclid v (pos (2 * half)))) half

-- how high the grass of the hills stands: 40 and two waves, along x and along z, that the seed
-- shifts
abbrev pub height : ℕ → ℤ → ℤ → ℕ
height seed x z = 40 + wave (x +ℤ pos (seed % 128)) 64 / 8 + wave (z +ℤ pos (seed / 128 % 96)) 48 /
    8

-- bedrock, two layers of dirt, and grass
abbrev pub flat_id : ℕ → ℕ
flat_id y = if y == 0 then 7 else if nat_le y 2 then 3 else if y == 3 then 2 else 0

-- bedrock, stone up to four below the grass, dirt, and the grass
abbrev pub hills_id : ℕ → ℕ → ℕ
hills_id top y = if y == 0 then 7 else if nat_le (y + 4) top then 1 else if nat_lt y top then 3 else
    if y == top then 2 else 0

-- a number from 0 to 15
abbrev pub is_within_16 : ℤ → Bool
is_within_16 (pos n) = nat_lt n 16
is_within_16 (negsuc n) = false

-- one layer of stone
abbrev pub isle_id : ℤ → ℕ → ℤ → ℕ
isle_id x y z = if y == 63 && is_within_16 x && is_within_16 z then 1 else 0

abbrev pub terrain_id : Terrain → ℤ → ℕ → ℤ → ℕ
terrain_id Flat x y z = flat_id y
terrain_id (Hills seed) x y z = hills_id (height seed x z) y
terrain_id Isle x y z = isle_id x y z

-- no metadata
abbrev pub terrain_state : Terrain → ℤ → ℕ → ℤ → ℕ
terrain_state terrain x y z = terrain_id terrain x y z * 16

-- plains, and on hills of 47 and more the biome of high hills
abbrev pub hills_biome : ℕ → ℕ
hills_biome top = if nat_lt top 47 then 1 else 3

abbrev pub terrain_biome : Terrain → ℤ → ℤ → ℕ
terrain_biome Flat x z = 1
terrain_biome (Hills seed) x z = hills_biome (height seed x z)
terrain_biome Isle x z = 1
