use Rattle.std.proofs.Common.{sym, ◌∙◌}
use Rattle.mc_view.proofs.Members.{equal_lacks}
use Rattle.mc_view.proofs.columns.Columns.new.Goals as goal

pub returns-then-eq : goal.returns-then-eq
returns-then-eq c =
    rw c.empty.ensures (sym (equal_lacks c.args.view.now c.args.other.now
    (sym c.eq.ensures ∙ c.if-eq.true)))
