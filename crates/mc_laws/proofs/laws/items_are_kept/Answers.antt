use Rattle.mc_laws.proofs.Weighing.Runs.{always_even}
use Rattle.mc_laws.proofs.laws.items_are_kept.Goals as goal

pub returns : goal.returns
returns c = always_even
