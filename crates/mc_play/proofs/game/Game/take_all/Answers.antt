use Rattle.std.proofs.Common.{ap, ◌∙◌}
use Rattle.mc_model.specs.Game.{Game}
use Rattle.mc_play.specs.Kept.{GameValue}
use Rattle.mc_play.specs.Picking.{all_stowed, without_those}
use Rattle.mc_play.proofs.Stowing.{none_gone, taken}
use Rattle.mc_play.proofs.game.Game.take_all.Goals as goal

pub returns-clause-is : goal.returns-clause-is
returns-clause-is c = rw c.take_all.ensures (taken _ _ _ _ _
    (ap (λ (v : GameValue). without_those c.stow_all.new.gone.keys v.game) c.self-2.view_is
    ∙ c.in_ok-stow_all.ensures.is
    ∙ ap (all_stowed c.args.connection c.args.found.now)
    (none_gone c.new-gone.result.keys c.args.self.now.game c.new-gone.ensures.empty))
    (ap (λ (v : GameValue). v.settled) (c.self-2.view_is ∙ c.in_ok-stow_all.ensures.rest)))
