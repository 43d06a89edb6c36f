use Rattle.std.proofs.Common.{◌≡◌, drop}
use Rattle.mc_model.specs.Good.{Good}
use Rattle.mc_play.specs.Kept.{played}
use Rattle.mc_events.specs.Ticking.{StaysListed, dismissed}
use Rattle.mc_events.proofs.server.ticking.dismiss.Given as goal

-- once those that are left were asked all are
abbrev pub invariant-loop-id : goal.invariant-loop-id
invariant-loop-id l = record {
  game : played l.game (dismissed l.connections (drop l.id-index l.ids) l.game.game) l.game.aside
      ≡ played l.initial.game (dismissed l.connections l.ids l.initial.game.game) l.game.aside;
  ready : l.game.aside.ready ≡ l.initial.game.aside.ready;
  good : Good l.initial.game.game → Good l.game.game;
  listed : StaysListed l.initial.list l.list l.initial.game.game l.game.game;
  last : l.list.last ≡ l.initial.list.last;
}
