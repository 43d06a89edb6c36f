use Rattle.mc_laws.proofs.Headline.Promise.{headline}
use Rattle.mc_laws.proofs.promise.headline.Goals as goal

pub returns : goal.returns
returns c = headline
