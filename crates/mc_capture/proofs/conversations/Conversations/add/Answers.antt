use Rattle.std.specs.FinMap.{nat_cmp-IsAntisymmetric}
use Rattle.std.proofs.lemmas.Cmp.{nat_cmp_total}
use Rattle.mc_bytes.proofs.Trees.{entry_put}
use Rattle.mc_capture.proofs.conversations.Conversations.add.Goals as goal

pub returns : goal.returns
returns c = rw (← c.self.view_is) (entry_put nat_cmp_total nat_cmp-IsAntisymmetric
    c.self.inside.by_connection.entries c.insert.new.self.entries c.args.k c.args.talk
    c.in_ok-insert.ensures.updates.0)
