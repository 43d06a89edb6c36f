-- What the mark of a client says of what it was shown at the last tick. Rules of this project.
use Rattle.std.specs.Prelude.{◌≡◌, true, map, Option, Some, None}
use Rattle.std.specs.FinMap.{from_entries}
use Rattle.mc_model.specs.Delta.{Pairs}
use Rattle.mc_model.specs.Sight.{Sight}
use Rattle.mc_model.specs.declared.player.Player.{Player}
use Rattle.mc_model.specs.Game.{Game, players_of}
use Rattle.mc_flush.specs.Lists.{ListValue}
use Rattle.mc_flush.specs.Seeing.{MarkValue, Parts, StandsFor, is_shown, nothing_shown}

-- the names of those in play, by their identifiers
abbrev pub pairs_of : Game → Pairs
pairs_of g = from_entries (map (λ (p : Player). (p.uuid, p.name)) (players_of g))

-- a list has just the players of a game
abbrev pub IsListed : ListValue → Game → Type 0
IsListed list g = list.present ≡ pairs_of g

-- The mark of a client that was shown nothing yet is a new one. That of another stands for what it
-- was shown, where the players and the cells were these.
abbrev pub Shows : Parts → MarkValue → Option Sight → Type 0
Shows parts mark None = mark ≡ nothing_shown
Shows parts mark (Some s) = (is_shown mark ≡ true) × StandsFor mark parts s
