use Rattle.std.proofs.Common.{◌<◌, sym, subst}
use Rattle.std.specs.FinMap.{len}
use Rattle.mc_flush.specs.Lists.{ListValue}
use Rattle.mc_showing.specs.Rosters.{IsRoster}
use Rattle.mc_showing.proofs.RosterFacts.{name_added}
use Rattle.mc_scenes.proofs.guests.Guests.add.Goals as goal

pub invariant_of-self-2 : goal.invariant_of-self-2
invariant_of-self-2 c =
    subst IsRoster (sym c.in_ok-add.ensures.ok)
    (name_added c.self.inside.list c.args.uuid c.args.name
    (subst (λ (list : ListValue). len list.present < 50) (sym c.self.view_is) c.requires.room)
    c.requires.short c.self.invariant)
