use Rattle.std.proofs.Common.{rules}
use Rattle.mc_frame.proofs.Fronts.{read_front, read_ends}
use Rattle.mc_frame.proofs.frame.front_frame.Goals as goal

pub overflow_sub-result : goal.overflow_sub-result
overflow_sub-result c = (read_front c.args.bytes.now c.in-Ok.payload.now c.rest.result.now
    (λ i. (c.type_inv.bytes i).fits) (search rules)).0

pub returns-in-Ok-clause-found : goal.returns-in-Ok-clause-found
returns-in-Ok-clause-found c = (read_front c.args.bytes.now c.in-Ok.payload.now c.rest.result.now
    (λ i. (c.type_inv.bytes i).fits) (search rules)).1

pub returns-in-Err-clause-ends : goal.returns-in-Err-clause-ends
returns-in-Err-clause-ends c = rw c.fault_of.ensures (read_ends c.args.bytes.now c.in-Err.stop
    c.args.count (search rules) (λ i. (c.type_inv.bytes i).fits) (search rules))
