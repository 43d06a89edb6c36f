use Rattle.std.proofs.Common.{ap, sym, ◌∙◌}
use Rattle.mc_entities.specs.declared.entity.Entity.{Entity}
use Rattle.mc_entities.specs.Folk.{FolkValue}
use Rattle.mc_model.specs.Game.{Game}
use Rattle.mc_play.specs.Kept.{GameValue, played}
use Rattle.mc_play.proofs.Picked.{lie_some, nothing_picked}
use Rattle.mc_play.proofs.game.Game.pick_up_all.Goals as goal

pub returns-then-not-are_items_among-clause-is : goal.returns-then-not-are_items_among-clause-is
returns-then-not-are_items_among-clause-is c =
    let v : GameValue = c.args.self.now in
    ap (λ (g : Game). played v g v.aside) (sym (nothing_picked v.game
    (ap lie_some (sym (c.all.ensures.entities
    ∙ ap (λ (folk : FolkValue). folk.state.entities) c.folk.ensures.is
    ∙ ap (λ (w : GameValue). w.game.entities) c.self.view_is))
    ∙ sym c.if-not-are_items_among.ensures)))
