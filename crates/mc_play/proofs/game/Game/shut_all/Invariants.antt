use Rattle.std.proofs.Common.{◌≡◌, ◌≤◌, drop, length}
use Rattle.mc_model.specs.Windows.{shut_all}
use Rattle.mc_play.specs.Kept.{played}
use Rattle.mc_play.proofs.game.Game.shut_all.Given as goal

-- once the windows of those that are left are closed all are, and they have places
abbrev pub invariant-loop-connection : goal.invariant-loop-connection
invariant-loop-connection l = record {
  game : played l.self (shut_all (drop l.connection-index l.connections) l.self.game)
      l.self.aside
      ≡ played l.initial.self (shut_all l.connections l.initial.self.game) l.self.aside;
  places : length (drop l.connection-index l.connections) ≤ l.self.aside.reserve;
}
