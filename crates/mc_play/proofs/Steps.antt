-- Who plays in a game that is kept, and steps of a game one after another.
use Rattle.std.proofs.Common.{◌≡◌, ℕ, sym, ap, ◌∙◌}
use Rattle.std.specs.Prelude.{Some}
use Rattle.std.specs.FinMap.{get}
use Rattle.mc_model.specs.declared.player.Player.{Player}
use Rattle.mc_model.specs.Game.{Game}
use Rattle.mc_play.specs.Kept.{Aside, GameValue, played}

-- who is found plays
pub in_play : (k : ℕ) {p : Player} {u v : GameValue} → v ≡ u →
    Some p ≡ get v.game.players k → get u.game.players k ≡ Some p
in_play k same found = sym (found ∙ ap (λ (w : GameValue). get w.game.players k) same)

-- a step after another is a step of both
pub then_played : (u : GameValue) {mid n : GameValue} {g : Game} {a b : Aside} (f : Game → Game) →
    mid ≡ played u g a → n ≡ played mid (f mid.game) b → n ≡ played u (f g) b
then_played u {mid} {n} {g} {a} {b} f first next =
    next ∙ (λ i. record { game = f (first i).game; settled = (first i).settled; aside = b })
