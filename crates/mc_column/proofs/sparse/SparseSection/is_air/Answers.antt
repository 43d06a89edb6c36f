use Rattle.mc_column.proofs.SparseFacts.{none_is_air, none_no_block}
use Rattle.mc_column.proofs.sparse.SparseSection.is_air.Goals as goal

pub returns-clause-value : goal.returns-clause-value
returns-clause-value c = rw (← c.self.view_is) (none_is_air c.self.inside.section c.is_none.result
    c.self.invariant c.is_none.ensures)

pub returns-clause-test : goal.returns-clause-test
returns-clause-test c = rw (← c.self.view_is) (none_no_block c.self.inside.section c.is_none.result
    c.self.invariant c.is_none.ensures)
