use Rattle.mc_model.proofs.CutFacts.{cut_of_bytes}
use Rattle.mc_laws.proofs.parts.cuts_are_worked_out.Goals as goal

pub returns : goal.returns
returns c = cut_of_bytes
