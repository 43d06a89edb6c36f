use Rattle.mc_fields.specs.IntegerLaws.{boolean_reads}
use Rattle.mc_fields.proofs.integers.read_bool.Goals as goal

pub returns : goal.returns
returns c = boolean_reads c.args.bytes.now _ c.args.at _ c.placed.result _
    (λ i. (c.type_inv.bytes i).fits) c.requires c.placed.ensures c.take_bool-value.ensures
    c.at-cursor.ensures
