use Rattle.std.proofs.Common.{◌≡◌, ◌-◌}
use Rattle.mc_bytes.specs.Times.{times_at}
use Rattle.mc_bytes.proofs.Loops.{with_front}
use Rattle.mc_fields.proofs.listed.take_items.Given as goal

abbrev pub invariant-loop : goal.invariant-loop
invariant-loop g l =
    with_front l.list (times_at g.T.Field.format.read (l.count - l.counter) l.cursor)
    ≡ times_at g.T.Field.format.read l.count l.fn.cursor
