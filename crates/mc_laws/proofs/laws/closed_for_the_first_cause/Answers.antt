use Rattle.mc_model.specs.Run.{history}
use Rattle.mc_model.specs.World.{new_world}
use Rattle.mc_laws.proofs.Runs.FirstCauses.{closing}
use Rattle.mc_laws.proofs.Runs.Promises.{bytes_promised}
use Rattle.mc_laws.proofs.Runs.Worlds.{always_good}
use Rattle.mc_laws.proofs.laws.closed_for_the_first_cause.Goals as goal

pub returns : goal.returns
returns c = λ start events e k cause none.
    closing (history (new_world start) events) e k cause (always_good start events)
    (bytes_promised start events k).closed none
