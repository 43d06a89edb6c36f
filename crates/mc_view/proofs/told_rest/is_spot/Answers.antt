use Rattle.std.proofs.Common.{rules}
use Rattle.mc_view.proofs.SpotFacts.{spot_decides}
use Rattle.mc_view.proofs.told_rest.is_spot.Goals as goal

pub returns : goal.returns
returns c = rw c.eq.ensures (spot_decides c.args.spot.now c.args.other.now)
