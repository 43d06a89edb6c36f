use Rattle.std.proofs.Common.{◌∙◌}
use Rattle.mc_slots.specs.Pile.{count_of}
use Rattle.mc_play.proofs.Counting.{packs_counted}
use Rattle.mc_play.proofs.packs.Packs.items.Goals as goal

pub returns-clause-is : goal.returns-clause-is
returns-clause-is c = rw (← c.self.view_is) (c.items_in.ensures.is
    ∙ packs_counted count_of c.self.inside.by_name.entries c.items_in.ensures.unique)
