use Rattle.std.proofs.Common.{sym, subst}
use Rattle.mc_showing.specs.Rosters.{IsRoster}
use Rattle.mc_showing.proofs.RosterFacts.{name_gone}
use Rattle.mc_showing.proofs.roster.Roster.remove.Goals as goal

pub invariant_of-self : goal.invariant_of-self
invariant_of-self c = subst IsRoster (sym c.remove-was_there.ensures.gone)
    (name_gone c.self.inside.list c.args.uuid c.self.invariant)
