use Rattle.std.proofs.Common.{◌≡◌, ◌-◌, ◌≤◌, length}
use Rattle.std.specs.Int.{w32}
use Rattle.mc_bytes.specs.Times.{times_at}
use Rattle.mc_nbt.specs.NbtReading.{signed_at}
use Rattle.mc_bytes.proofs.Loops.{with_front}
use Rattle.mc_nbt.proofs.values.reading.read_ints.Given as goal

abbrev pub invariant-loop : goal.invariant-loop
invariant-loop l =
    (with_front l.ints (times_at (signed_at w32) (l.count - l.counter) l.input) ≡
    times_at (signed_at w32) l.count l.fn.input) × (length l.input ≤ length l.fn.input)
