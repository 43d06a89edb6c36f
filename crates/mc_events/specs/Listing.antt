-- What becomes of the list of players where a connection had a player of some identifier, or none,
-- and has another, or none. Rules of this project.
use Rattle.std.specs.Prelude.{◌≡◌, ◌<◌, ℕ, false, Option, Some, None}
use Rattle.std.specs.FinMap.{contains_key, len}
use Rattle.mc_flush.specs.Lists.{ListValue, with_name, without_name}
use Rattle.mc_model.specs.declared.player.Player.{Player}

-- one that came is listed, if it was not, and one that went is not
abbrev pub Follows : Option ℕ → Option Player → ListValue → ListValue → Type 0
Follows None (Some p) old new = contains_key old.present p.uuid ≡ false → len old.present < 50 →
    new ≡ with_name old p.uuid p.name
Follows (Some uuid) None old new = new ≡ without_name old uuid
Follows was now old new = new ≡ old
