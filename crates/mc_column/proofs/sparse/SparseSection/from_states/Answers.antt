use Rattle.std.proofs.Common.{◌∙◌}
use Rattle.mc_column.proofs.SparseFacts.{no_blocks_air, blocks_sparse}
use Rattle.mc_column.proofs.sparse.SparseSection.from_states.Goals as goal

pub returns-then-filled-eq0 : goal.returns-then-filled-eq0
returns-then-filled-eq0 c = c.air.ensures ∙ no_blocks_air _ _ c.requires.sized c.requires.counted
    c.if-filled-eq0.true

pub invariant_of-result : goal.invariant_of-result
invariant_of-result c = rw c.in_ok-from_states.ensures (blocks_sparse _ _ c.requires.sized
    c.requires.counted c.if-filled-eq0.false)
