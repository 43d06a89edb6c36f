use Rattle.std.proofs.Common.{sym, subst}
use Rattle.mc_flush.specs.Lists.{ListValue, settled_list}
use Rattle.mc_showing.specs.Rosters.{IsRoster}
use Rattle.mc_scenes.proofs.guests.Guests.settle.Goals as goal

settled : (list : ListValue) → IsRoster list → IsRoster (settled_list list)
settled list is = record { few = is.few; few_before = is.few; named = is.named }

pub invariant_of-self-2 : goal.invariant_of-self-2
invariant_of-self-2 c =
    subst IsRoster (sym c.in_ok-settle.ensures.ok) (settled c.self.inside.list c.self.invariant)
