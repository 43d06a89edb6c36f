-- What a packet of a player in play does to the game, a topic a file. The player is looked up once,
-- and is only read: what changes it goes by the number of its connection, through deeds. Rules of
-- this project.
use Rattle.std.specs.Prelude.{ℕ, Option, Some, None}
use Rattle.std.specs.Int.{cast_unsigned, w8}
use Rattle.std.specs.Option.{option_and_then}
use Rattle.std.specs.FinMap.{get}
use Rattle.mc_fields.specs.declared.position.Spot.{Spot}
use Rattle.mc_up.specs.declared.play_up.PlayUp.{PlayUp}
use Rattle.mc_up.specs.declared.play_up.PlayUp.TheVariants.{Chat, Position, Look, PositionLook}
use Rattle.mc_up.specs.declared.play_up.PlayUp.TheVariants.{Held, Settings, Digging, Placement}
use Rattle.mc_up.specs.declared.play_up.PlayUp.TheVariants.{ClickWindow, CloseWindow, Confirm}
use Rattle.mc_up.specs.declared.play_up.PlayUp.TheVariants.{Creative}
use Rattle.mc_model.specs.declared.player.Player.{Player}
use Rattle.mc_model.specs.Movement.{moved, turned, arrive}
use Rattle.mc_model.specs.Notes.{again}
use Rattle.mc_model.specs.Hands.{place_of_hotbar, take_up}
use Rattle.mc_model.specs.Game.{Game, spot_of}
use Rattle.mc_model.specs.Deeds.{noting, with_player}
use Rattle.mc_model.specs.Digging.{digging}
use Rattle.mc_model.specs.Placing.{place_on}
use Rattle.mc_model.specs.Chat.{say}
use Rattle.mc_model.specs.Windows.{close, confirm, press}

-- the game after a packet of a player; none where one of its numbers stands for no number
abbrev pub act_of : ℕ → Player → PlayUp → Game → Option Game
act_of k p (Chat text) g = Some (say p text g)
act_of k p (Position x y z on_ground) g = arrive k p (moved (spot_of g p) x y z) g
act_of k p (Look yaw pitch on_ground) g = arrive k p (turned (spot_of g p) yaw pitch) g
act_of k p (PositionLook x y z yaw pitch on_ground) g =
    arrive k p (option_and_then (λ (to : Spot). turned to yaw pitch) (moved (spot_of g p) x y z)) g
act_of k p (Digging status cell face) g = Some (digging k p status cell g)
act_of k p (Placement cell face item x y z) g = Some (place_on k p cell face g)
act_of k p (Held place) g = Some (take_up k p (place_of_hotbar place) g)
act_of k p (ClickWindow window slot button number mode item) g = Some (press k p (record {
  window = window;
  slot = slot;
  button = button;
  number = number;
  mode = mode;
  item = item;
}) g)
act_of k p (Confirm window number accepted) g =
    Some (confirm p (cast_unsigned w8 window) number g)
act_of k p (CloseWindow window) g = Some (close k p window g)
act_of k p (Creative slot item) g = Some (noting again k g)
act_of k p (Settings locale view chat_mode colours skin) g =
    Some (with_player k (λ (q : Player). record q { view_byte = view }) g)
act_of k p other g = Some g

-- a player's, if there is one
abbrev pub act_by : Game → ℕ → PlayUp → Option Player → Option Game
act_by g k packet None = Some g
act_by g k packet (Some p) = act_of k p packet g

-- the game after a packet of the player of a connection; nothing changes where it has none
unfoldable pub act : Game → ℕ → PlayUp → Option Game
act g k packet = act_by g k packet (get g.players k)
