-- Which game a client is in can be said for every number of an entity.
use Rattle.std.proofs.Common.{ℕ, ◌≤◌, FitsSigned, false, arith}
use Rattle.std.proofs.lemmas.Int.{ints}
use Rattle.std.specs.Int.{w32}
use lib.IntN.{ℤ, pos, negsuc}
use lib.Signed.{◌≤ℤ◌}
use Rattle.mc_packets.specs.declared.down.Down.TheVariants.{JoinGame}
use Rattle.mc_land.specs.declared.terrain.Terrain.{Terrain}
use Rattle.mc_model.specs.Opening.{level}
use Rattle.mc_model.proofs.FitsDue.{level_short}
use Rattle.mc_model.proofs.FitsPlay.{join_clear}
use Rattle.mc_sending.specs.Sending.{IsClear}

pub join_fits : (eid : ℤ) (most : ℕ) (terrain : Terrain) → pos 0 ≤ℤ eid → FitsSigned w32 eid →
    most ≤ 50 → IsClear (JoinGame eid 0 (pos 0) 1 most (level terrain) false)
join_fits (pos n) most terrain low fits few =
    join_clear n most (level terrain) (omega (arith, ints, fits)) few (level_short terrain)
join_fits (negsuc n) most terrain low fits few = absurd (omega (arith, ints, low))
