-- The mobs with which a world begins: where each stands. Rules of this project.
use Rattle.std.specs.Prelude.{ℕ, ◌+◌, ◌*◌, ◌/◌, ◌%◌, List, map}
use Rattle.std.specs.List.{range_with_len}
use lib.IntN.{pos, ◌+ℤ◌}
use Rattle.mc_fields.specs.declared.position.Spot.{Spot}
use Rattle.mc_land.specs.declared.terrain.Terrain.{Terrain}
use Rattle.mc_entities.specs.declared.entity.Entity.{Entity}
use Rattle.mc_entities.specs.declared.entity.EntityKind.TheVariants as kinds
use Rattle.mc_model.specs.declared.mobs.TheConstants.{MOBS_IN_ROW, MOB_STEP}
use Rattle.mc_model.specs.Spots.{spawn_spot}

-- the i-th mob begins where players enter, and so far to the east and to the south of that: eight
-- stand in a row, two blocks apart
abbrev pub mob_spot : Terrain → ℕ → Spot
mob_spot terrain i = record (spawn_spot terrain) {
  x = (spawn_spot terrain).x +ℤ pos (MOB_STEP * (i % MOBS_IN_ROW));
  z = (spawn_spot terrain).z +ℤ pos (MOB_STEP * (i / MOBS_IN_ROW));
}

-- it has the i-th number
abbrev pub mob_at : Terrain → ℕ → Entity
mob_at terrain i = record { eid = pos (i + 1); kind = kinds.Mob; spot = mob_spot terrain i }

-- so many mobs, by rising number
abbrev pub mobs_at : Terrain → ℕ → List Entity
mobs_at terrain n = map (mob_at terrain) (range_with_len 0 n)
