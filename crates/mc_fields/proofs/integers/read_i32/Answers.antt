use Rattle.std.specs.Int.{w32}
use Rattle.mc_bytes.specs.NumberLaws.{wide_32}
use Rattle.mc_fields.specs.IntegerLaws.{signed_reads}
use Rattle.mc_fields.proofs.integers.read_i32.Goals as goal

pub returns : goal.returns
returns c = signed_reads w32 wide_32 c.args.bytes.now _ c.args.at _ c.placed.result _
    (λ i. (c.type_inv.bytes i).fits) c.requires c.placed.ensures c.take_i32-value.ensures
    c.at-cursor.ensures
