use Rattle.std.proofs.Common.{◌≡◌}
use Rattle.mc_devices.proofs.sockets.rounds.Rounds.next.Given as goal

abbrev pub invariant-loop : goal.invariant-loop
invariant-loop g l = l.self ≡ l.fn.self
