use Rattle.std.specs.Int.{w16}
use Rattle.mc_bytes.specs.NumberLaws.{wide_16}
use Rattle.mc_fields.specs.IntegerLaws.{signed_reads}
use Rattle.mc_fields.proofs.integers.read_i16.Goals as goal

pub returns : goal.returns
returns c = signed_reads w16 wide_16 c.args.bytes.now _ c.args.at _ c.placed.result _
    (λ i. (c.type_inv.bytes i).fits) c.requires c.placed.ensures c.take_i16-value.ensures
    c.at-cursor.ensures
