use Rattle.mc_column.proofs.ColumnFacts.{kept_sizes}
use Rattle.mc_column.proofs.column.Column.copy.Goals as goal

pub returns-in_err-copies_of-clause-sizes : goal.returns-in_err-copies_of-clause-sizes
returns-in_err-copies_of-clause-sizes c = rw (← c.self.view_is) (kept_sizes _ _ c.self.invariant)

pub returns-in_err-from_slice-clause-sizes : goal.returns-in_err-from_slice-clause-sizes
returns-in_err-from_slice-clause-sizes c = rw (← c.self.view_is) (kept_sizes _ _ c.self.invariant)

pub returns-clause-sizes : goal.returns-clause-sizes
returns-clause-sizes c = rw (← c.self.view_is) (kept_sizes _ _ c.self.invariant)
