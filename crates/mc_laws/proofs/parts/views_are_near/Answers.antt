use Rattle.mc_model.proofs.ViewFacts.{view_near, near_view}
use Rattle.mc_laws.proofs.parts.views_are_near.Goals as goal

pub returns : goal.returns
returns c middle d place = (view_near middle d place, near_view middle d place)
