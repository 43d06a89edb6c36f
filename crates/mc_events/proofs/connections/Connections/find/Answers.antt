use Rattle.std.proofs.Common.{◌∙◌}
use Rattle.std.proofs.lemmas.Cmp.{nat_cmp_total}
use Rattle.mc_bytes.proofs.Trees.{tree_get}
use Rattle.mc_events.proofs.connections.Connections.find.Goals as goal

pub returns : goal.returns
returns c = rw (← c.self.view_is) (c.get.ensures.value
    ∙ tree_get nat_cmp_total c.args.k c.self.inside.by_number.entries)
