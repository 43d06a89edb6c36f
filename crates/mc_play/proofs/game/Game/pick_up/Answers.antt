use Rattle.std.proofs.Common.{◌≡◌, ◌∙◌, ap}
use Rattle.indexmap.proofs.MapLemmas.{OnOk-map}
use Rattle.mc_model.specs.Game.{Game}
use Rattle.mc_play.specs.Kept.{played}
use Rattle.mc_play.proofs.Steps.{in_play}
use Rattle.mc_play.proofs.Stowing.{picks}
use Rattle.mc_play.proofs.game.Game.pick_up.Goals as goal

pub returns-clause-is : goal.returns-clause-is
returns-clause-is c =
    let u = c.args.self.now in
    OnOk-map c.take_all.result _ _ (λ is. is
    ∙ ap (λ (g : Game). played u g c.take_all.new.self.aside)
    (picks c.args.connection c.in-Some.player.now c.as_slice.result.now u.game
    (in_play c.args.connection c.self.view_is c.in-Some.ensures)
    (c.as_slice.ensures.value ∙ c.in_ok-found.ensures))) c.take_all.ensures.is
