-- What a tick makes of a connection as the server keeps it, once its client was shown a game. Rules
-- of this project.
use Rattle.std.specs.Prelude.{◌≡◌, Option, Some, None}
use Rattle.std.specs.FinMap.{get}
use Rattle.mc_model.specs.Sight.{Sight}
use Rattle.mc_flush.specs.Seeing.{Parts}
use Rattle.mc_model.specs.declared.player.Player.{Player}
use Rattle.mc_model.specs.Showing.{sight_of}
use Rattle.mc_model.specs.Tick.{flush}
use Rattle.mc_play.specs.Kept.{GameValue}
use Rattle.mc_links.specs.Kept.{ConnectionValue}
use Rattle.mc_showing.specs.Shown.{Shows}

-- a client that had been shown something, or nothing, was shown the game as its player sees it: its
-- link is what is made of it by what is due, and its mark says so, of the parts as they are now
pub record IsFlushed (v : GameValue) (present : Parts) (p : Player) (shown : Option Sight)
    (old new : ConnectionValue) : Type 0 where
  pub is : new
      ≡ record old { link = (flush v.game shown old.id old.link).link; mark = new.mark }
  pub shows : (last : Sight) → Shows present new.mark (Some (sight_of v.game p last))

-- a connection without a player is as it was, and the client of another was shown the game,
-- whatever its mark says, of the parts as they were, that it had been shown
pub record IsShown (v : GameValue) (before present : Parts) (old new : ConnectionValue)
    : Type 0 where
  pub waits : get v.game.players old.id ≡ None → new ≡ old
  pub plays : (p : Player) (shown : Option Sight) → get v.game.players old.id ≡ Some p →
      Shows before old.mark shown → IsFlushed v present p shown old new
