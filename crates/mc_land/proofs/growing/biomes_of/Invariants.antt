use Rattle.std.proofs.Common.{◌≡◌, ℕ, ◌<◌, length, get_or}
use Rattle.mc_land.specs.Terrain.{terrain_biome}
use Rattle.mc_land.specs.Grown.{x_at, z_at}
use Rattle.mc_land.proofs.growing.biomes_of.Given as goal

-- the biomes below the place
abbrev pub invariant-loop-top : goal.invariant-loop-top
invariant-loop-top l = (length l.biomes.items ≡ l.top-index) × ((k : ℕ) → k < l.top-index →
    get_or l.biomes.items k 0 ≡ terrain_biome l.terrain (x_at l.place k) (z_at l.place k))
