-- Where players enter, and where they stand. Rules of this project.
use Rattle.std.specs.Prelude.{ℕ, ◌+◌, ◌*◌, List, option_map, unwrap_or}
use lib.IntN.{pos}
use Rattle.mc_fields.specs.declared.position.Spot.{Spot}
use Rattle.mc_land.specs.declared.terrain.Terrain.{Terrain}
use Rattle.mc_land.specs.declared.terrain.Terrain.TheVariants.{Flat, Hills, Isle}
use Rattle.mc_land.specs.Terrain.{height}
use Rattle.mc_entities.specs.declared.entity.Entity.{Entity}
use Rattle.mc_entities.specs.Numbers.{numbered}
use Rattle.mc_entities.specs.Folk.{eid_of}

-- how high the ground of a world is where players enter
abbrev pub spawn_height : Terrain → ℕ
spawn_height Flat = 4
spawn_height (Hills seed) = height seed (pos 8) (pos 8) + 1
spawn_height Isle = 64

-- where players enter: the middle of the column (0, 0)
abbrev pub spawn_spot : Terrain → Spot
spawn_spot terrain = record {
  x = pos 272;
  y = pos (32 * spawn_height terrain);
  z = pos 272;
  yaw = 0;
  pitch = 0;
}

-- where an entity of a number is, and how it looks
abbrev pub spot_in : Terrain → List Entity → ℕ → Spot
spot_in terrain entities eid =
    unwrap_or (option_map (λ (e : Entity). e.spot) (numbered eid_of (pos eid) entities))
    (spawn_spot terrain)
