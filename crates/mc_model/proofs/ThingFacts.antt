-- How high up players enter.
use Rattle.std.proofs.Common.{ℕ, ◌*◌, ◌<◌, ◌≤◌, arith}
use Rattle.std.proofs.lemmas.Bool.Decides.{nat_tests}
use Rattle.std.specs.Prelude.{unsigned_abs}
use Rattle.std.specs.Int.{int_rem_euclid}
use lib.IntN.{ℤ, pos, negsuc}
use Rattle.mc_land.specs.declared.terrain.Terrain.{Terrain}
use Rattle.mc_land.specs.Terrain.{wave}
use Rattle.mc_model.specs.Spots.{spawn_height}

-- ---- where players enter

-- a remainder is below its divisor
pub rest_below : (v : ℤ) (n : ℕ) → 0 < n → unsigned_abs (int_rem_euclid v (pos n)) < n
rest_below (pos v) n some = omega (arith, some)
rest_below (negsuc v) n some = omega (arith, some)

-- a wave is half its period high at most
wave_within : (v : ℤ) (half : ℕ) → 0 < half → wave v half ≤ half
wave_within v half some = let below = rest_below v (2 * half) (omega (arith, some)) in
    omega (arith, below)

-- players enter not far up
pub spawn_low : (terrain : Terrain) → spawn_height terrain < 100
spawn_low terrain = grind (arith, nat_tests)
