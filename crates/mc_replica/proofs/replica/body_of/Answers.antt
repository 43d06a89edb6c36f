use Rattle.mc_column.specs.Body.{body_read}
use Rattle.mc_replica.proofs.ChunkFaults.{answered, told}
use Rattle.mc_replica.proofs.replica.body_of.Goals as goal

pub returns-clause-fault : goal.returns-clause-fault
returns-clause-fault c = λ fault.
    let read =
    body_read c.args.mask c.args.sky c.args.ground_up c.args.bytes.now in (
      λ e. told c.read_body.result read fault c.read_body.ensures.reads e,
      λ e. answered c.args.mask c.args.sky c.args.ground_up c.args.bytes.now c.read_body.result
          fault c.read_body.ensures.short.1 c.read_body.ensures.long.1 e,
    )
