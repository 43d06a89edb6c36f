use Rattle.mc_model.specs.Run.{history}
use Rattle.mc_model.specs.World.{new_world}
use Rattle.mc_laws.proofs.Apart.Senders.{only_sender}
use Rattle.mc_laws.proofs.Runs.Worlds.{always_good}
use Rattle.mc_laws.proofs.laws.only_senders_change.Goals as goal

pub returns : goal.returns
returns c = λ start events e k is.
    only_sender (history (new_world start) events) e k is (always_good start events)
