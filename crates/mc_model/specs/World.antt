-- The world: the game and its connections, and what is remembered of these apart from both. A step
-- of one connection takes its seat, and no world. Rules of this project.
use Rattle.std.specs.Prelude.{ℕ, Bool, false, List, [], ◌∷◌, length, Option, Some, None, unwrap_or}
use Rattle.std.specs.List.{filter}
use Rattle.std.specs.Ordering.{nat_cmp}
use Rattle.std.specs.FinMap.{FinMap, empty, get, insert}
use Rattle.std.specs.FinMap as finmap
use Rattle.mc_model.specs.Packets.{Sent}
use Rattle.mc_model.specs.Sight.{Sight}
use Rattle.mc_model.specs.Stages.{is_closed}
use Rattle.mc_model.specs.Maps.{map_keyed}
use Rattle.mc_model.specs.Game.{Game, new_game}
use Rattle.mc_model.specs.Leaving.{leave_all}
use Rattle.mc_model.specs.Link.{Handing, Link}
use Rattle.mc_model.specs.Minds.{Plans, Start, plans_of}

-- the bytes of a connection that came and were not read, since they are no whole frame yet, and how
-- many came before them
pub record Unread : Type 0 where
  pub rest : List ℕ
  pub before : ℕ

abbrev pub nothing_unread : Unread
nothing_unread = record { rest = []; before = 0 }

pub record World : Type 0 where
  pub game : Game
  -- what is left of each mob's plan
  pub plans : Plans
  -- the connections, each under the number that it joined with
  pub links : FinMap nat_cmp Link
  -- what of each is not read, where anything came of it
  pub unread : FinMap nat_cmp Unread
  -- what each was shown at the last tick, where it was shown anything
  pub shown : FinMap nat_cmp Sight
  -- the number of the last join
  pub last : Option ℕ

abbrev pub new_world : Start → World
new_world start = record {
  game = new_game start.settings (length (plans_of start));
  plans = plans_of start;
  links = empty;
  unread = empty;
  shown = empty;
  last = None;
}

-- ---- one connection

-- all that a step of one connection reads and changes
pub record Seat : Type 0 where
  pub game : Game
  pub link : Link
  pub unread : Unread

-- what a step makes of it, and what it hands out
pub record Turn : Type 0 where
  pub seat : Seat
  pub handed : List Sent

-- the world after an event, and what was handed out, to whom
pub record Outcome : Type 0 where
  pub world : World
  pub out : List (ℕ × List Sent)

abbrev pub silent : World → Outcome
silent w = record { world = w; out = [] }

abbrev pub unread_of : ℕ → World → Unread
unread_of k w = unwrap_or (get w.unread k) nothing_unread

-- the seat of a connection, and the world with another there
abbrev pub seat_of : World → ℕ → Link → Seat
seat_of w k l = record { game = w.game; link = l; unread = unread_of k w }

abbrev pub with_seat : World → ℕ → Seat → World
with_seat w k s = record w {
  game = s.game;
  links = insert w.links k s.link;
  unread = insert w.unread k s.unread;
}

abbrev pub seated : World → ℕ → Turn → Outcome
seated w k t = record { world = with_seat w k t.seat; out = (k, t.handed) ∷ [] }

abbrev pub on_link : World → ℕ → (Seat → Turn) → Option Link → Outcome
on_link w k f None = silent w
on_link w k f (Some l) = seated w k (f (seat_of w k l))

-- a step of a connection, where it is there
abbrev pub on_seat : World → ℕ → (Seat → Turn) → Outcome
on_seat w k f = on_link w k f (get w.links k)

-- ---- all connections

-- whether a connection is closed by what it is made
abbrev pub is_closing : (ℕ → Link → Handing) → ℕ → Option Link → Bool
is_closing f k None = false
is_closing f k (Some l) = is_closed (f k l).link.stage

-- the players in play whose connections are
abbrev pub closed_by : (ℕ → Link → Handing) → World → List ℕ
closed_by f w = filter (λ (k : ℕ). is_closing f k (get w.links k)) (finmap.keys w.game.players)

-- The world after each connection was handed something, all of one world: the players leave of
-- those that were closed by it, in the order of their connections.
unfoldable pub each : (ℕ → Link → Handing) → World → World
each f w = record w {
  game = leave_all (closed_by f w) w.game;
  links = map_keyed (λ (k : ℕ) (l : Link). (f k l).link) w.links;
}
