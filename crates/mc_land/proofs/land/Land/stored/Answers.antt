use Rattle.std.proofs.Common.{◌∙◌, sym, ap}
use Rattle.std.specs.List.{sum_by}
use Rattle.mc_slots.specs.Pile.{count_of}
use Rattle.mc_land.specs.KeptLand.{Chests}
use Rattle.mc_land.proofs.SumFacts.{chest_inside, chest_is, entries_are}
use Rattle.mc_land.proofs.land.Land.stored.Goals as goal

pub returns-clause-items : goal.returns-clause-items
returns-clause-items c = rw (← c.self.view_is) (c.stored_in.ensures ∙
    ap (λ (es : Chests). sum_by (λ e. sum_by count_of e.1) es)
    (sym (entries_are c.self.inside.chests.entries c.self.invariant.0.chests_ordered)))

pub returns-clause-inside : goal.returns-clause-inside
returns-clause-inside c =
    rw (← c.self.view_is) (λ key some. chest_inside _ _ _ key c.self.invariant.0 some)

pub returns-clause-chests : goal.returns-clause-chests
returns-clause-chests c = rw (← c.self.view_is) (λ key some. chest_is _ _ _ key c.self.invariant.0
    some)
