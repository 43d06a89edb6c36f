-- What a client is answered that asks to play under a name. Rules of this project.
use Rattle.std.specs.Prelude.{◌≡◌, ℕ, ◌&&◌, ◌||◌, nat_lt, Bool, true, List, Option, Some, None}
use Rattle.std.specs.Prelude.{Result, Ok, Err}
use Rattle.std.specs.FinMap.{len}
use Rattle.mc_entities.specs.declared.entity.TheConstants.{EID_MAX}
use Rattle.mc_model.specs.declared.cause.Refusal.{Refusal}
use Rattle.mc_model.specs.Game.{Game, is_known}

-- one more may play: fewer are in play than may be, a number of an entity is left, and the name was
-- in play before or one more may be
abbrev pub has_room : Game → List ℕ → Bool
has_room g name = nat_lt (len g.players) g.settings.players && (nat_lt g.eids EID_MAX
    && (is_known g name || nat_lt (len g.packs) 65536))

-- an answer to a client says why it is refused, or it is its name, under which there is room
abbrev pub IsAnswer : Game → List ℕ → Option Refusal → Result (List ℕ) Refusal → Type 0
IsAnswer g name (Some why) answer = answer ≡ Err why
IsAnswer g name None answer = (answer ≡ Ok name) × (has_room g name ≡ true)
