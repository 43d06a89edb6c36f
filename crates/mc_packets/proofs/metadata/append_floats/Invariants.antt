use Rattle.std.proofs.Common.{drop}
use Rattle.mc_bytes.specs.Format.{Anything}
use Rattle.mc_bytes.proofs.Appends.{IsWriting}
use Rattle.mc_fields.specs.Integers.{float}
use Rattle.mc_packets.proofs.metadata.append_floats.Given as goal

abbrev pub invariant-loop-pattern : goal.invariant-loop-pattern
invariant-loop-pattern l = IsWriting (float {Rest = Anything}).append
    (drop l.pattern-index l.patterns) l.patterns l.fn.out.items l.out.items
