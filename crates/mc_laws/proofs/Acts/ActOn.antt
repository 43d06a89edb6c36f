-- Whatever a player does takes the game onward, and leaves it, its chests and its windows good.
use Rattle.std.proofs.Common.{◌≡◌, ℕ, Some}
use Rattle.mc_up.specs.declared.play_up.PlayUp.{PlayUp}
use Rattle.mc_model.specs.Game.{Game}
use Rattle.mc_model.specs.Acts.{act}
use Rattle.mc_model.specs.Good.{AreChests, AreShown, Good}
use Rattle.mc_laws.proofs.Deeds.Chests.{GoodGame}
use Rattle.mc_laws.proofs.Deeds.Kept.{deeds_on, made_good}
use Rattle.mc_laws.proofs.Deeds.Onwards.{Onward}
use Rattle.mc_laws.proofs.Windows.Same.{right_shown, shown_right}
use Rattle.mc_laws.proofs.Acts.ActMade.{act_made}

pub act_on : (k : ℕ) (packet : PlayUp) (g v : Game) → act g k packet ≡ Some v → Onward k g v
act_on k packet g v e = let made = (act_made k packet g v e).made in
    deeds_on _ _ _ k g made.games v made.deeds

pub act_good : (k : ℕ) (packet : PlayUp) (g v : Game) → act g k packet ≡ Some v → GoodGame g →
    GoodGame v
act_good k packet g v e w = made_good _ _ _ k g v (act_made k packet g v e).made w w

pub act_shown : (k : ℕ) (packet : PlayUp) (g v : Game) → act g k packet ≡ Some v → Good g →
    AreChests g → AreShown g → AreShown v
act_shown k packet g v e w a s =
    right_shown v ((act_made k packet g v e).shown (w, a) (shown_right g w s))
