use Rattle.std.specs.FinMap.{nat_cmp-IsAntisymmetric}
use Rattle.std.proofs.lemmas.Cmp.{nat_cmp_total}
use Rattle.mc_bytes.proofs.Trees.{entry_gone}
use Rattle.mc_events.proofs.connections.Connections.remove.Goals as goal

pub returns : goal.returns
returns c = rw (← c.self.view_is) (entry_gone nat_cmp_total nat_cmp-IsAntisymmetric
    c.self.inside.by_number.entries c.remove-connection.new.self.entries c.args.k
    c.remove-connection.ensures.updates.0)
