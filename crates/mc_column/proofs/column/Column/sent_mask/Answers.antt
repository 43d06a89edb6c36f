use Rattle.std.proofs.Common.{sym, ◌∙◌}
use Rattle.mc_column.proofs.ColumnFacts.{kept_sizes}
use Rattle.mc_column.proofs.SentFacts.{kept_mask}
use Rattle.mc_column.proofs.column.Column.sent_mask.Goals as goal

pub returns-clause-mask : goal.returns-clause-mask
returns-clause-mask c = rw (← c.self.view_is) (c.sent_mask.ensures ∙
    sym (kept_mask _ _ c.self.invariant))

pub returns-clause-sizes : goal.returns-clause-sizes
returns-clause-sizes c = rw (← c.self.view_is) (kept_sizes _ _ c.self.invariant)
