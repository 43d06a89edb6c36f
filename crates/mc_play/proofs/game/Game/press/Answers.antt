use Rattle.std.proofs.Common.{◌∙◌, sym}
use Rattle.mc_model.specs.Windows.{answering}
use Rattle.mc_play.proofs.Clicking.{press_room, press_there, presses}
use Rattle.mc_play.proofs.Steps.{in_play}
use Rattle.mc_play.proofs.game.Game.press.Goals as goal

pub restock-requires : goal.restock-requires
restock-requires c =
    press_there c.args.connection c.in-Some.player.now
    (answering c.args.click.now c.clicked-came.result) c.chest_of-chest.result
    c.clicked-came.new.chest c.args.self.now c.reserve.new.self c.answer.new.self
    c.chest_of-chest.ensures c.clicked-came.ensures.there c.reserve.ensures.is
    c.in_ok-answer.ensures.ok

pub repack_and_drop-requires-clause-room : goal.repack_and_drop-requires-clause-room
repack_and_drop-requires-clause-room c = λ item full.
    press_room c.args.connection (answering c.args.click.now c.clicked-came.result)
    c.args.click.now c.pack_of-pack.result c.in-Some.player.now.chest c.chest_of-chest.result
    c.clicked-came.new.chest c.may_drop.result c.clicked-came.result item
    c.args.self.now c.reserve.new.self c.answer.new.self c.restock.new.self c.may_drop.ensures
    c.clicked-came.ensures.answer (sym c.dropped.ensures ∙ full) c.reserve.ensures.is
    c.in_ok-answer.ensures.ok c.restock.ensures

pub returns-clause-ok : goal.returns-clause-ok
returns-clause-ok c =
    presses c.args.connection c.in-Some.player.now c.args.click.now c.pack_of-pack.result
    c.clicked-came.new.pack c.chest_of-chest.result c.clicked-came.new.chest c.may_drop.result
    c.clicked-came.result c.dropped.result c.args.self.now c.reserve.new.self
    c.answer.new.self c.restock.new.self c.repack_and_drop.new.self
    (in_play c.args.connection c.self.view_is c.in-Some.ensures) c.pack_of-pack.ensures
    c.chest_of-chest.ensures c.may_drop.ensures c.clicked-came.ensures.pack
    c.clicked-came.ensures.chest c.clicked-came.ensures.answer c.dropped.ensures
    c.reserve.ensures.is c.in_ok-answer.ensures.ok c.restock.ensures
    c.repack_and_drop.ensures.is
