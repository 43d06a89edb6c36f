use Rattle.std.proofs.Common.{◌<◌, ◌≤◌, ◌∙◌, List, ℕ, length, sym, subst}
use Rattle.std.specs.FinMap.{len}
use Rattle.mc_flush.specs.Lists.{ListValue}
use Rattle.mc_showing.specs.Rosters.{IsRoster}
use Rattle.mc_showing.proofs.RosterFacts.{name_added, name_few}
use Rattle.mc_showing.proofs.roster.Roster.add.Goals as goal

pub invariant_of-self-2 : goal.invariant_of-self-2
invariant_of-self-2 c =
    subst IsRoster (sym c.in_ok-add.ensures.ok)
    (name_added c.self.inside.list c.args.uuid c.in_ok-name.name
    (subst (λ (list : ListValue). len list.present < 50) (sym c.self.view_is) c.requires.room)
    (subst (λ (text : List ℕ). length text ≤ 64)
    (sym (c.in_ok-name.ensures ∙ c.text.ensures.value))
    (name_few c.args.name.now c.text.ensures.name)) c.self.invariant)
