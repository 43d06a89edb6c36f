use Rattle.std.proofs.Common.{◌≡◌, true}
use Rattle.mc_device_tests.proofs.link.next_but_quiets.Given as goal

abbrev pub invariant-loop : goal.invariant-loop
invariant-loop l = l.link.stage.connected ≡ true
