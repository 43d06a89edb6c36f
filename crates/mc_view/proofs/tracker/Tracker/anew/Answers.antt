use Rattle.std.proofs.Common.{ap, ◌∙◌}
use Rattle.mc_view.specs.KeptTold.{told_of}
use Rattle.mc_view.proofs.TrackerFacts.{told_nobody}
use Rattle.mc_view.proofs.tracker.Tracker.anew.Goals as goal

pub returns : goal.returns
returns c = ap told_of c.in_ok-with_capacity.ensures.items ∙ told_nobody
