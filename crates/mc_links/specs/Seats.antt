-- What a step of one connection makes of the game and of the connection, both as they are kept.
-- Rules of this project.
use Rattle.std.specs.Prelude.{◌≡◌, ℕ, Bool, true, false, List}
use Rattle.mc_frame.specs.Cut.{IsPart}
use Rattle.mc_model.specs.Cutting.{cut_of}
use Rattle.mc_model.specs.Step.{on_fault, on_frames}
use Rattle.mc_model.specs.World.{Seat, Unread}
use Rattle.mc_play.specs.Kept.{GameValue, played}
use Rattle.mc_links.specs.Kept.{ConnectionValue}
use Rattle.mc_links.specs.Sitting.{IsUnderway, Sits, unread_after}

-- ---- a seat

-- a game and a connection as a seat, with what is not read of its bytes
abbrev pub seat_with : GameValue → ConnectionValue → Unread → Seat
seat_with v c unread = record { game = v.game; link = c.link; unread = unread }

-- a game and a connection become those of a seat: nothing is settled, and nothing but the link of
-- the connection is another
pub record Becomes (v w : GameValue) (c d : ConnectionValue) (s : Seat) : Type 0 where
  pub game : w ≡ played v s.game w.aside
  pub link : d ≡ record c { link = s.link }

-- ---- bytes that come, frame by frame

-- frames of all bytes were taken and done
pub record IsReading (count : ℕ) (all : List ℕ) (v w : GameValue) (c d : ConnectionValue)
    (left : List ℕ) : Type 0 where
  pub payloads : List (List ℕ)
  pub underway : IsUnderway count all payloads d.splitter left
  pub becomes : (unread : Unread) → Becomes v w (record c { splitter = d.splitter }) d
      (on_frames c.id (seat_with v c unread) payloads).seat

-- all frames of the bytes were done, and the fault behind them
pub record AreDone (count : ℕ) (all : List ℕ) (v w : GameValue) (c d : ConnectionValue)
    : Type 0 where
  pub becomes : (unread : Unread) → Becomes v w (record c { splitter = d.splitter }) d
      (on_fault c.id (on_frames c.id (seat_with v c unread) (cut_of count all).frames).seat
      (cut_of count all).fault).seat
  pub sits : Sits d (unread_after count all)

-- it is open, and its splitter holds a part of a frame; or all is done
abbrev pub HasRead : Bool → ℕ → List ℕ → GameValue → GameValue → ConnectionValue →
    ConnectionValue → List ℕ → Type 0
HasRead true count all v w c d left =
    IsReading count all v w c d left × IsPart d.splitter.held
HasRead false count all v w c d left = AreDone count all v w c d
