-- Bytes of one connection that come at once, or in pieces: what is the same either way. Rules of
-- this project.
use Rattle.std.specs.Prelude.{◌≡◌, ◌≢◌, ℕ, true, false, List, [], ◌∷◌, ◌++◌, Some}
use Rattle.std.specs.FinMap.{get}
use Rattle.mc_bytes.specs.Reading.{IsBytes}
use Rattle.mc_frame.specs.Cut.{IsPart}
use Rattle.mc_model.specs.declared.cause.Cause.TheVariants as causes
use Rattle.mc_model.specs.Run.{to}
use Rattle.mc_model.specs.Stages.{is_closed}
use Rattle.mc_model.specs.Step.{Event, after, on_bytes, step, still}
use Rattle.mc_model.specs.Link.{Link}
use Rattle.mc_model.specs.World.{Outcome, Seat, Turn, World}

-- ---- the same, but for what is not read of a connection that is closed

pub record SameSeat (s v : Seat) : Type 0 where
  pub game : s.game ≡ v.game
  pub link : s.link ≡ v.link
  pub unread : is_closed s.link.stage ≡ false → s.unread ≡ v.unread

-- and it is handed the same
pub record SameTurn (t u : Turn) : Type 0 where
  pub handed : t.handed ≡ u.handed
  pub seat : SameSeat t.seat u.seat

-- the same of a world: each connection is handed the same, and of connection k alone what is not
-- read can be another, where it is closed
pub record SameOutcome (k : ℕ) (o q : Outcome) : Type 0 where
  pub handed : (j : ℕ) → to j o.out ≡ to j q.out
  pub game : o.world.game ≡ q.world.game
  pub plans : o.world.plans ≡ q.world.plans
  pub links : (j : ℕ) → get o.world.links j ≡ get q.world.links j
  pub unread : (j : ℕ) → j ≢ k → get o.world.unread j ≡ get q.world.unread j
  pub own : (l : Link) → get o.world.links k ≡ Some l → is_closed l.stage ≡ false →
      get o.world.unread k ≡ get q.world.unread k
  pub shown : o.world.shown ≡ q.world.shown
  pub last : o.world.last ≡ q.world.last

-- ---- one event, and then another

abbrev pub in_two : World → Event → Event → Outcome
in_two w e f = record {
  world = (step (step w e).world f).world;
  out = (step w e).out ++ (step (step w e).world f).out;
}

-- ---- pieces, and all that a connection is owed is taken after each

abbrev pub emptied : Seat → Seat
emptied s = record s { link = record s.link { owed = [] } }

abbrev pub taken : Turn → Turn
taken t = record { seat = emptied t.seat; handed = t.handed }

abbrev pub in_pieces : ℕ → Seat → List (List ℕ) → Turn
in_pieces k s [] = still s
in_pieces k s (piece ∷ pieces) =
    after (taken (on_bytes k s piece)) (λ (t : Seat). in_pieces k t pieces)

-- it was closed since it would have been owed too much
pub record IsFull (l : Link) : Type 0 where
  pub closed : is_closed l.stage ≡ true
  pub cause : l.cause ≡ Some causes.Backlog

-- what is not read of it is bytes, and a part of a frame where it is open
pub record Waits (s : Seat) : Type 0 where
  pub are : IsBytes s.unread.rest
  pub part : is_closed s.link.stage ≡ false → IsPart s.unread.rest
