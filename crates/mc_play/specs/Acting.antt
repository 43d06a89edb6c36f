-- What an answer to an act says. Rules of this project.
use Rattle.std.specs.Prelude.{◌≡◌, Option, Some, None, Result, Ok, Err}
use Rattle.mc_model.specs.Game.{Game}
use Rattle.mc_play.specs.declared.game.acts.ActFault.{ActFault}
use Rattle.mc_play.specs.declared.game.acts.ActFault.TheVariants as faults
use Rattle.mc_play.specs.Kept.{GameValue, played}

-- the game is the one that there is to be; a bad number is answered where there is to be none, and
-- all is as before; without memory nothing is promised
abbrev pub Acts : {X : Type 0} → Result X ActFault → GameValue → GameValue → Option Game → Type 0
Acts (Ok done) old new (Some g) = new ≡ played old g new.aside
Acts (Ok done) old new None = ⊥
Acts (Err faults.BadNumber) old new g = (g ≡ None) × (new ≡ old)
Acts (Err faults.NoMemory) old new g = Unit {0}
