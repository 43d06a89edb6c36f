use Rattle.mc_laws.proofs.Serving.Serves.{serves}
use Rattle.mc_laws.proofs.promise.turns_serve.Goals as goal

pub returns : goal.returns
returns c = serves
