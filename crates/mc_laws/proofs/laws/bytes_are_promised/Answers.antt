use Rattle.mc_laws.proofs.Runs.Promises.{bytes_promised}
use Rattle.mc_laws.proofs.laws.bytes_are_promised.Goals as goal

pub returns : goal.returns
returns c = bytes_promised
