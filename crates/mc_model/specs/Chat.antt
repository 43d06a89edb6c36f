-- What players say: it goes to all in play at the next tick. Rules of this project.
use Rattle.std.specs.Prelude.{List, ℕ, ◌++◌, codes}
use Rattle.mc_model.specs.declared.player.Player.{Player}
use Rattle.mc_model.specs.Texts.{chat_json}
use Rattle.mc_model.specs.Game.{Game}
use Rattle.mc_model.specs.Deeds.{said}

-- a text of a player of this name, as all are shown it
abbrev pub line_of : List ℕ → List ℕ → List ℕ
line_of name text = chat_json (codes "<" ++ (name ++ (codes "> " ++ text)))

-- a text of a player, as all are shown it
abbrev pub say : Player → List ℕ → Game → Game
say p text g = said (line_of p.name text) g
