-- How far spots go, and how a move changes one (rules of this project).
use Rattle.std.specs.Prelude.{Bool, ◌&&◌, ◌+ℤ◌, int_le, Option, Some, None, if◌then◌else◌}
use lib.IntN.{ℤ, neg_ℤ}
use Rattle.mc_fields.specs.declared.position.Spot.{Spot}
use Rattle.mc_entities.specs.declared.mind.Move.{Move}
use Rattle.mc_entities.specs.declared.shifting.TheConstants.{FLAT_END, LOWEST, HIGHEST}

abbrev pub is_between : ℤ → ℤ → ℤ → Bool
is_between low high n = int_le low n && int_le n high

-- 30,000,000 blocks to each side, from 64 below to 4,096 above
abbrev pub is_inside : Spot → Bool
is_inside spot = is_between (neg_ℤ FLAT_END) FLAT_END spot.x &&
    (is_between LOWEST HIGHEST spot.y && is_between (neg_ℤ FLAT_END) FLAT_END spot.z)

-- a spot and a move added up
abbrev pub added : Move → Spot → Spot
added by spot = record spot {
  x = spot.x +ℤ by.dx;
  y = spot.y +ℤ by.dy;
  z = spot.z +ℤ by.dz;
}

-- a spot after a move: the sum, or the spot itself where the sum lies out of the range
abbrev pub shifted_spot : Move → Spot → Spot
shifted_spot by spot = if is_inside (added by spot) then added by spot else spot

-- a number, where it is between two others
abbrev pub within : ℤ → ℤ → ℤ → Option ℤ
within low high n = if is_between low high n then Some n else None
