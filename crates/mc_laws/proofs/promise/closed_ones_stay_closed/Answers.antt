use Rattle.mc_laws.proofs.Headline.Promise.{closing_of}
use Rattle.mc_laws.proofs.promise.closed_ones_stay_closed.Goals as goal

pub returns : goal.returns
returns c = closing_of
