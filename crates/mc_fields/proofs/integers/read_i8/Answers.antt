use Rattle.std.specs.Int.{w8}
use Rattle.mc_bytes.specs.NumberLaws.{wide_8}
use Rattle.mc_fields.specs.IntegerLaws.{signed_reads}
use Rattle.mc_fields.proofs.integers.read_i8.Goals as goal

pub returns : goal.returns
returns c = signed_reads w8 wide_8 c.args.bytes.now _ c.args.at _ c.placed.result _
    (λ i. (c.type_inv.bytes i).fits) c.requires c.placed.ensures c.take_i8-value.ensures
    c.at-cursor.ensures
