use Rattle.mc_model.specs.World.{new_world}
use Rattle.mc_laws.proofs.Decoding.Worlds.{new_world_sound, run_sound}
use Rattle.mc_laws.proofs.Fits.Clear.{entities_few}
use Rattle.mc_laws.proofs.Fits.Counted.{one_destroy}
use Rattle.mc_laws.proofs.laws.entities_are_few.Goals as goal

pub returns-clause-few : goal.returns-clause-few
returns-clause-few c start events are bytes = entities_few _
    (run_sound events (new_world start) bytes (new_world_sound start are)).game

pub returns-clause-one : goal.returns-clause-one
returns-clause-one c start events k p q are bytes there = one_destroy p q
    ((run_sound events (new_world start) bytes (new_world_sound start are)).shown k p there)
