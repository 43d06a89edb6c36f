use Rattle.std.proofs.Common.{◌∙◌, sym, ap}
use Rattle.std.proofs.lemmas.Result.{IfOk-weaker}
use Rattle.std.specs.FinMap.{nat_cmp-IsAntisymmetric}
use Rattle.std.proofs.lemmas.Cmp.{nat_cmp_total}
use Rattle.mc_bytes.proofs.Trees.{entries_are}
use Rattle.mc_events.specs.Asking.{pending_of}
use Rattle.mc_events.proofs.connections.Connections.pending.Goals as goal

pub returns : goal.returns
returns c = rw (← c.self.view_is) (IfOk-weaker c.pending_among.result _ _ (λ numbers is. is
    ∙ ap pending_of (sym (entries_are nat_cmp_total nat_cmp-IsAntisymmetric
    c.self.inside.by_number.entries c.len-many.ensures.ordered))) c.pending_among.ensures)
