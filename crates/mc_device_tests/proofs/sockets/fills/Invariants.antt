use Rattle.std.proofs.Common.{◌≡◌, true}
use Rattle.mc_device_tests.proofs.sockets.fills.Given as goal

abbrev pub invariant-loop : goal.invariant-loop
invariant-loop l = l.lobby.listens ≡ true
