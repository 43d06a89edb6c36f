use Rattle.std.proofs.Common.{◌≡◌, ◌-◌}
use Rattle.mc_bytes.specs.Times.{times_at}
use Rattle.mc_bytes.proofs.Loops.{with_front}
use Rattle.mc_packets.specs.PlayerChange.{player}
use Rattle.mc_packets.proofs.players.players_in.Given as goal

abbrev pub invariant-loop : goal.invariant-loop
invariant-loop l = with_front l.list (times_at (player l.action).read (l.count - l.counter)
    l.cursor) ≡ times_at (player l.action).read l.count l.fn.cursor
