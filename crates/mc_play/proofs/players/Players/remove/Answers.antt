use Rattle.std.proofs.Common.{◌∙◌}
use Rattle.std.specs.FinMap.{nat_cmp-IsAntisymmetric}
use Rattle.std.proofs.lemmas.Cmp.{nat_cmp_total}
use Rattle.mc_bytes.proofs.Trees.{entry_gone, tree_get}
use Rattle.mc_play.proofs.players.Players.remove.Goals as goal

pub returns-clause-was : goal.returns-clause-was
returns-clause-was c = rw (← c.self.view_is) (c.remove.ensures.value
    ∙ tree_get nat_cmp_total c.args.connection c.self.inside.by_connection.entries)

pub returns-clause-is : goal.returns-clause-is
returns-clause-is c = rw (← c.self.view_is) (entry_gone nat_cmp_total nat_cmp-IsAntisymmetric
    c.self.inside.by_connection.entries c.remove.new.self.entries c.args.connection
    c.remove.ensures.updates.0)
