use Rattle.mc_laws.proofs.Points.{difference_leads}
use Rattle.mc_laws.proofs.parts.difference_leads.Goals as goal

pub returns : goal.returns
returns c = difference_leads
