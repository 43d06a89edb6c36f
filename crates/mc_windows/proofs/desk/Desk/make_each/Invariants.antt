use Rattle.std.proofs.Common.{◌≡◌}
use Rattle.mc_windows.specs.Moves.{run}
use Rattle.mc_windows.specs.Clicks.{to_each}
use Rattle.mc_windows.proofs.desk.Desk.make_each.Given as goal

abbrev pub invariant-loop-k : goal.invariant-loop-k
invariant-loop-k l = l.self ≡ run (to_each l.how l.from l.order l.k) l.fn.self
