use Rattle.std.proofs.Common.{arith}
use Rattle.mc_model.specs.Spots.{spawn_height}
use Rattle.mc_model.proofs.ThingFacts.{spawn_low}
use Rattle.mc_model.proofs.FitsPlay.{spawn_clear}
use Rattle.mc_showing.proofs.opening.spawn_packet.Goals as goal

pub returns-clause-clear : goal.returns-clause-clear
returns-clause-clear c = let low = spawn_low c.args.terrain.now in
    spawn_clear (spawn_height c.args.terrain.now) (omega (arith, low))
