-- What a player has in its hand. Rules of this project.
use Rattle.std.specs.Prelude.{ℕ, nat_lt, Option, Some, None, if◌then◌else◌}
use lib.IntN.{ℤ, pos, negsuc}
use Rattle.mc_slots.specs.declared.pile.Pile.{Pile}
use Rattle.mc_model.specs.declared.player.Player.{Player}
use Rattle.mc_model.specs.Things.{with_hand}
use Rattle.mc_model.specs.Game.{Game, pack_of}
use Rattle.mc_model.specs.Deeds.{rehand_of, repack_of}

-- a place of the hotbar; none of another number
abbrev pub place_of_hotbar : ℤ → Option ℕ
place_of_hotbar (pos n) = if nat_lt n 9 then Some n else None
place_of_hotbar (negsuc n) = None

-- its hand goes to a place of the hotbar, and holds what is there
abbrev pub take_up : ℕ → Player → Option ℕ → Game → Game
take_up k p None g = g
take_up k p (Some hand) g = rehand_of k p hand g

-- it has a pile in its hand in the place of what it had
abbrev pub carrying : Player → Pile → Game → Game
carrying p pile g = repack_of p (with_hand pile p.hand (pack_of g p)) g
