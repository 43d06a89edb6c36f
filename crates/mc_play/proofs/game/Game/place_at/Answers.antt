use Rattle.std.proofs.Common.{◌≡◌, subst}
use Rattle.std.specs.Prelude.{OnOk}
use Rattle.mc_model.specs.Game.{Game}
use Rattle.mc_play.specs.Kept.{played}
use Rattle.mc_play.proofs.Reaching.{is_built_on, is_opened}
use Rattle.mc_play.proofs.Steps.{in_play}
use Rattle.mc_play.proofs.game.Game.place_at.Goals as goal

pub returns-in-Some-reach : goal.returns-in-Some-reach
returns-in-Some-reach c =
    subst (λ (g : Game). OnOk c.open_chest.result
    (c.open_chest.new.self ≡ played c.args.self.now g c.open_chest.new.self.aside))
    (is_opened c.args.connection c.in-Some.player.now c.args.cell c.args.target
    c.in-Some-reach.state c.args.self.now
    (in_play c.args.connection c.self.view_is c.in-Some.ensures) c.in-Some-reach.ensures.is
    c.if-is_chest.ensures) c.open_chest.ensures.ok

pub returns-in-Some-2 : goal.returns-in-Some-2
returns-in-Some-2 c =
    subst (λ (g : Game). OnOk c.put_block.result
    (c.put_block.new.self ≡ played c.args.self.now g c.put_block.new.self.aside))
    (is_built_on c.args.connection c.in-Some.player.now c.args.cell c.args.target
    c.in-Some-reach.state c.args.self.now
    (in_play c.args.connection c.self.view_is c.in-Some.ensures) c.in-Some-reach.ensures.is
    c.if-is_chest.ensures) c.put_block.ensures
