use Rattle.std.proofs.Common.{◌≡◌, ◌-◌}
use Rattle.mc_bytes.specs.Format.{Anything}
use Rattle.mc_bytes.specs.Times.{times_at}
use Rattle.mc_bytes.proofs.Loops.{with_front}
use Rattle.mc_fields.specs.VarintFormat.{var_int}
use Rattle.mc_packets.proofs.counted.varints_in.Given as goal

abbrev pub invariant-loop : goal.invariant-loop
invariant-loop l =
    with_front l.list (times_at (var_int {Rest = Anything}).read (l.count - l.counter) l.cursor) ≡
    times_at (var_int {Rest = Anything}).read l.count l.fn.cursor
