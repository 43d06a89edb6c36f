use Rattle.std.specs.Int.{w128}
use Rattle.mc_bytes.specs.SixteenLaws.{wide_128}
use Rattle.mc_fields.specs.IntegerLaws.{number_reads}
use Rattle.mc_fields.proofs.integers.read_u128.Goals as goal

pub returns : goal.returns
returns c = number_reads w128 wide_128 c.args.bytes.now _ c.args.at _ c.placed.result _
    (λ i. (c.type_inv.bytes i).fits) c.requires c.placed.ensures c.u128-value.ensures
    c.at-cursor.ensures
