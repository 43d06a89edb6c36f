-- What a server of one connection stands for whose bytes come in pieces: the exchange in which they
-- came one by one. Rules of this project.
use Rattle.std.specs.Prelude.{◌≡◌, ℕ, false, ◌≤◌, List, [], length, Option, Some, None}
use Rattle.std.specs.List.{AllByRecursion}
use Rattle.std.specs.FinMap.{get}
use Rattle.mc_frame.specs.Frame.{IsPayload, frame_spelling}
use Rattle.mc_model.specs.declared.cause.Cause.{Cause}
use Rattle.mc_model.specs.declared.cause.Cause.TheVariants as causes
use Rattle.mc_model.specs.declared.stage.Stage.{Stage}
use Rattle.mc_model.specs.declared.stage.Stage.TheVariants as stages
use Rattle.mc_model.specs.Game.{new_game}
use Rattle.mc_model.specs.Packets.{Sent, bytes_of, frame_of}
use Rattle.mc_model.specs.Stages.{is_closed}
use Rattle.mc_model.specs.World.{Seat, Turn, World, unread_of}
use Rattle.mc_laws.specs.Pieces.{Waits}
use Rattle.mc_events.specs.Served.{ServerValue}
use Rattle.mc_events.specs.Stands.{Stands}
use Rattle.mc_words.specs.declared.bad_input.InputFault.{InputFault}
use Rattle.mc_text.specs.Passes.{Passes}
use Rattle.mc_status.specs.declared.playing.TheConstants.{PIECE_MAX}
use Rattle.mc_status.specs.StatusText.{Exchange, lone_settings, session_fault}

-- ---- the seat of the one connection

-- it has this seat in a world, but for what is not read of it where it is closed
pub record Sits (w : World) (s : Seat) : Type 0 where
  pub game : w.game ≡ s.game
  pub link : get w.links 0 ≡ Some s.link
  pub unread : is_closed s.link.stage ≡ false → unread_of 0 w ≡ s.unread

-- a server stands for a world in which it has this seat
pub record HasSeat (server : ServerValue) (s : Seat) : Type 0 where
  pub world : World
  pub stands : Stands server world
  pub sits : Sits world s

-- ---- how far it has come

-- it asks what it wants, or for the status; or it wants to log in; or it was closed, and not since
-- it was owed too much
abbrev pub AsksAt : Stage → Option Cause → Type 0
AsksAt stages.Hand cause = cause ≡ None
AsksAt stages.Status cause = cause ≡ None
AsksAt stages.Login cause = cause ≡ None
AsksAt stages.Closed cause = ¬ (cause ≡ Some causes.Backlog)
AsksAt other cause = ⊥

-- nobody plays, and it took all that it was owed
pub record Asks (most : ℕ) (s : Seat) : Type 0 where
  pub game : s.game ≡ new_game (lone_settings most) 0
  pub stage : AsksAt s.link.stage s.link.cause
  pub owed : s.link.owed ≡ []
  pub waits : Waits s

-- how many bytes may come at once at a stage: one as long as it has not said what it wants, since
-- none may follow that it wants to log in
abbrev pub most_at : Option Stage → ℕ
most_at (Some stages.Hand) = 1
most_at (Some stages.Status) = PIECE_MAX
most_at other = 0

-- ---- what it is handed

-- a packet whose frame is short
pub record IsSmall (p : Sent) : Type 0 where
  pub payload : List ℕ
  pub spelled : frame_of p ≡ frame_spelling payload
  pub fits : IsPayload payload
  pub few : length (frame_of p) ≤ 1000

-- it is owed just what it was handed, which is small
pub record IsAnswered (t : Turn) : Type 0 where
  pub owed : t.seat.link.owed ≡ bytes_of t.handed
  pub small : AllByRecursion IsSmall t.handed

-- ---- the exchange

-- a server stands for an exchange, of which some first part of the text was written since what is
-- held was `start`, and the lines are what waits of it
pub record Meets (most : ℕ) (start held : Option (List ℕ)) (server : ServerValue)
    (lines : List ℕ) (x : Exchange) : Type 0 where
  pub seat : Seat
  pub has : HasSeat server seat
  pub exchange : Sits x.world seat
  pub asks : Asks most seat
  pub fault : x.fault ≡ session_fault seat.link.stage seat.link.cause
  pub passes : Passes start held [] x.text lines []

-- a line came to an exchange, of which so much was written, and to a fault of it; where it has none
-- the server stands for the exchange
pub record Receives (most : ℕ) (start held : Option (List ℕ)) (server : ServerValue)
    (lines : List ℕ) (kind : Option InputFault) (x : Exchange) : Type 0 where
  pub fault : kind ≡ x.fault
  pub passes : Passes start held [] x.text lines []
  pub meets : kind ≡ None → Meets most start held server lines x
