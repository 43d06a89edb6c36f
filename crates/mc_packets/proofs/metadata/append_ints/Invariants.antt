use Rattle.std.proofs.Common.{drop}
use Rattle.mc_bytes.specs.Format.{Anything}
use Rattle.mc_bytes.proofs.Appends.{IsWriting}
use Rattle.mc_fields.specs.Integers.{int}
use Rattle.mc_packets.proofs.metadata.append_ints.Given as goal

abbrev pub invariant-loop-number : goal.invariant-loop-number
invariant-loop-number l = IsWriting (int {Rest = Anything}).append (drop l.number-index l.numbers)
    l.numbers l.fn.out.items l.out.items
