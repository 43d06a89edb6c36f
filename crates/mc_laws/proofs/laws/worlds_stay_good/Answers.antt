use Rattle.mc_laws.proofs.Runs.Worlds.{always_good}
use Rattle.mc_laws.proofs.laws.worlds_stay_good.Goals as goal

pub returns : goal.returns
returns c = always_good
