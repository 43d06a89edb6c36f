use Rattle.mc_laws.proofs.Shown.Showing.{run_shows}
use Rattle.mc_laws.proofs.Headline.Promise.{decoded_shows}
use Rattle.mc_laws.proofs.promise.runs_show_the_world.Goals as goal

pub returns-clause-handed : goal.returns-clause-handed
returns-clause-handed c = run_shows

pub returns-clause-decoded : goal.returns-clause-decoded
returns-clause-decoded c = decoded_shows
