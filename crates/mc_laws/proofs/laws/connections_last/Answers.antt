use Rattle.mc_model.specs.Run.{history}
use Rattle.mc_model.specs.World.{new_world}
use Rattle.mc_laws.proofs.Runs.Lasting.{lasts}
use Rattle.mc_laws.proofs.Runs.Promises.{bytes_promised}
use Rattle.mc_laws.proofs.Runs.Worlds.{always_good}
use Rattle.mc_laws.proofs.laws.connections_last.Goals as goal

pub returns : goal.returns
returns c = λ start events e k l is.
    lasts k (history (new_world start) events) e l (always_good start events)
    (bytes_promised start events k).closed is
