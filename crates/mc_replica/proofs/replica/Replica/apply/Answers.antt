use Rattle.mc_model.specs.Replica.{apply}
use Rattle.mc_replica.proofs.replica.Replica.apply.Goals as goal

pub returns-in-Chunk-clause-ok : goal.returns-in-Chunk-clause-ok
unfolding apply
returns-in-Chunk-clause-ok c = rw (c.in-Chunk.is, ← c.as_slice.ensures) c.take_chunk.ensures.ok

pub returns-in-Chunk-clause-fault : goal.returns-in-Chunk-clause-fault
returns-in-Chunk-clause-fault c =
    rw (c.in-Chunk.is, ← c.as_slice.ensures) c.take_chunk.ensures.fault
