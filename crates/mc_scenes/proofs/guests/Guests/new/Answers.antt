use Rattle.std.proofs.Common.{sym, subst}
use Rattle.mc_showing.specs.Rosters.{IsRoster}
use Rattle.mc_showing.proofs.RosterFacts.{nobody}
use Rattle.mc_scenes.proofs.guests.Guests.new.Goals as goal

pub invariant_of-result : goal.invariant_of-result
invariant_of-result c = subst IsRoster (sym c.new.ensures) nobody
