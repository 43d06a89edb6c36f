use Rattle.std.proofs.Common.{sym, subst}
use Rattle.std.specs.FinMap.{empty}
use Rattle.mc_flush.specs.Lists.{ListValue}
use Rattle.mc_showing.specs.Rosters.{IsRoster}
use Rattle.mc_showing.proofs.RosterFacts.{nobody}
use Rattle.mc_scenes.proofs.guests.Guests.clear.Goals as goal

cleared : (list : ListValue) → IsRoster list → IsRoster (record list { present = empty })
cleared list is = record { few = nobody.few; few_before = is.few_before; named = nobody.named }

pub invariant_of-self : goal.invariant_of-self
invariant_of-self c =
    subst IsRoster (sym c.clear.ensures) (cleared c.self.inside.list c.self.invariant)
