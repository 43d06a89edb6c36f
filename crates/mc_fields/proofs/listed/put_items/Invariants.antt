use Rattle.std.proofs.Common.{drop}
use Rattle.mc_bytes.proofs.Appends.{IsWriting}
use Rattle.mc_fields.proofs.listed.put_items.Given as goal

abbrev pub invariant-loop-item : goal.invariant-loop-item
invariant-loop-item g l =
    IsWriting g.T.Field.format.append (drop l.item-index l.items) l.items l.fn.out.items l.out.items
