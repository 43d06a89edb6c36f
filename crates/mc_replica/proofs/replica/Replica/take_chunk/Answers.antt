use Rattle.std.proofs.Common.{◌≡◌, ◌==◌, ◌&&◌, ◌∙◌, sym, false}
use Rattle.mc_bytes.specs.declared.fault.ReadFault.TheVariants as faults
use Rattle.mc_column.specs.Body.{body_read}
use Rattle.mc_replica.specs.Faults.{fault_of}
use Rattle.mc_replica.proofs.ChunkFaults.{kept_fault, passed_on}
use Rattle.mc_replica.proofs.replica.Replica.take_chunk.Goals as goal

pub returns-in-Err-clause-fault : goal.returns-in-Err-clause-fault
returns-in-Err-clause-fault c = λ fault.
    let read = body_read c.args.mask c.self.inside.sky c.args.ground_up c.args.bytes.now in
    let exact = c.in-Err.ensures.fault fault in
    let kept : (c.args.ground_up && c.args.mask == 0) ≡ false =
    sym c.takes_away.ensures ∙ c.if-takes_away.false in
    let is = kept_fault (c.args.ground_up && c.args.mask == 0) (fault_of read) kept in
    rw (← c.self.view_is) (
      λ e. is ∙ exact.0 (passed_on c.in-Err.fault (faults.Field fault) e),
      λ e. passed_on c.in-Err.fault (faults.Field fault) (exact.1 (sym is ∙ e)),
    )
