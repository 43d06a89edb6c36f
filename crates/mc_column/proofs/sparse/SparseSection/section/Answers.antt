use Rattle.mc_column.proofs.SparseFacts.{not_some_is_air}
use Rattle.mc_column.proofs.sparse.SparseSection.section.Goals as goal

pub returns-clause-none : goal.returns-clause-none
returns-clause-none c = rw (← c.self.view_is) (not_some_is_air c.self.inside.section c.as_ref.result
    c.self.invariant c.as_ref.ensures.variant)
