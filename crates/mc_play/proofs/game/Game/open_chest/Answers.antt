use Rattle.mc_play.proofs.Opening.{opens}
use Rattle.mc_play.proofs.Steps.{in_play}
use Rattle.mc_play.proofs.game.Game.open_chest.Goals as goal

pub returns-clause-ok : goal.returns-clause-ok
returns-clause-ok c =
    opens c.args.connection c.in-Some.player.now c.args.cell c.args.self.now
    c.reserve.new.self c.shut.new.self c.show_chest-2.new.self
    (in_play c.args.connection c.self.view_is c.in-Some.ensures) c.if-is_none.ensures
    c.reserve.ensures.is c.shut.ensures.is c.show_chest-2.ensures
