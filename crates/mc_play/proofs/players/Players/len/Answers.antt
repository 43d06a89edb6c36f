use Rattle.std.proofs.Common.{◌∙◌, sym, ap, length}
use Rattle.std.specs.Ordering.{nat_cmp}
use Rattle.std.specs.FinMap.{from_entries, len-entries, nat_cmp-IsAntisymmetric}
use Rattle.std.proofs.lemmas.Cmp.{nat_cmp_total}
use Rattle.mc_bytes.proofs.Trees.{entries_are}
use Rattle.mc_play.proofs.players.Players.len.Goals as goal

pub returns : goal.returns
returns c = rw (← c.self.view_is) (c.len.ensures.len
    ∙ ap length (sym (entries_are nat_cmp_total nat_cmp-IsAntisymmetric
    c.self.inside.by_connection.entries c.len.ensures.ordered))
    ∙ sym (len-entries (from_entries {R = nat_cmp} c.self.inside.by_connection.entries)))
