use Rattle.std.proofs.Common.{arith}
use Rattle.mc_capture.proofs.Lists.{heading_read}
use Rattle.mc_capture.proofs.heading.heading_of.Goals as goal

pub returns : goal.returns
returns c =
    let one = c.in_ok-connection.ensures.cases in
    let two = c.in_ok-size.ensures.cases in
    heading_read c.args.bytes.now c.in_ok-kind.rest.now c.in_ok-connection.rest.now
    c.in_ok-connection.connection.now c.in_ok-size.size.now c.in_ok-kind.kind.now
    c.from_be_bytes.result c.from_be_bytes-2.result
    (λ i. (c.type_inv.bytes i).fits)
    c.in_ok-kind.ensures.cases.0
    (omega (arith, one.2))
    one.0
    one.1
    (omega (arith, two.2))
    two.0
    c.from_be_bytes.ensures
    c.from_be_bytes-2.ensures
