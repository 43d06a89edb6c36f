use Rattle.std.proofs.Common.{◌≡◌, drop}
use Rattle.mc_play.specs.Kept.{played}
use Rattle.mc_play.specs.Picking.{all_stowed, without_those}
use Rattle.mc_play.proofs.game.Game.stow_all.Given as goal

-- once those that are left are stowed all are
abbrev pub invariant-loop-ripe : goal.invariant-loop-ripe
invariant-loop-ripe l = record {
  game : all_stowed l.connection (drop l.ripe-index l.found) (without_those l.gone.keys l.self.game)
      ≡ all_stowed l.connection l.found (without_those l.initial.gone.keys l.initial.self.game);
  rest : l.self ≡ played l.initial.self l.self.game l.self.aside;
  ready : l.self.aside.ready ≡ l.initial.self.aside.ready;
}
