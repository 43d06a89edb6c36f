-- What the beat of a tick makes of a connection as the server keeps it. Rules of this project.
use Rattle.std.specs.Prelude.{◌≡◌, Option}
use Rattle.mc_model.specs.Sight.{Sight}
use Rattle.mc_model.specs.Game.{Game}
use Rattle.mc_model.specs.Showing.{last_shown}
use Rattle.mc_model.specs.Tick.{beat}
use Rattle.mc_links.specs.Kept.{ConnectionValue}

-- its link is what the beat makes of it, whatever its client was shown with the beat that its mark
-- keeps; nothing else of it is another
abbrev pub IsBeaten : Game → ConnectionValue → ConnectionValue → Type 0
IsBeaten g old new = (shown : Option Sight) → (last_shown shown).beat ≡ old.mark.beat →
    new ≡ record old { link = (beat g shown old.id old.link).link }
