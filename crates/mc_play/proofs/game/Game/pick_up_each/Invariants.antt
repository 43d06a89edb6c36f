use Rattle.std.proofs.Common.{◌≡◌, drop}
use Rattle.mc_play.specs.Kept.{played}
use Rattle.mc_play.specs.Picking.{all_picked}
use Rattle.mc_play.proofs.game.Game.pick_up_each.Given as goal

-- once those that are left picked up what they can all did
abbrev pub invariant-loop-connection : goal.invariant-loop-connection
invariant-loop-connection l = record {
  game : played l.self (all_picked (drop l.connection-index l.connections) l.self.game)
      l.self.aside
      ≡ played l.initial.self (all_picked l.connections l.initial.self.game) l.self.aside;
  ready : l.self.aside.ready ≡ l.initial.self.aside.ready;
}
