use Rattle.std.proofs.Common.{drop}
use Rattle.mc_bytes.specs.Format.{Anything}
use Rattle.mc_bytes.proofs.Appends.{IsWriting}
use Rattle.mc_fields.specs.VarintFormat.{var_int}
use Rattle.mc_packets.proofs.counted.append_varints.Given as goal

abbrev pub invariant-loop-item : goal.invariant-loop-item
invariant-loop-item l = IsWriting (var_int {Rest = Anything}).append (drop l.item-index l.items)
    l.items l.fn.out.items l.out.items
