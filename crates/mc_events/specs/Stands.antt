-- What a server stands for: a world of the definitions, after some events.
use Rattle.std.specs.Prelude.{◌≡◌, ℕ, false, true, length, List, [], Option, Some, None}
use Rattle.std.specs.FinMap.{get}
use Rattle.mc_model.specs.Run.{AreBytes, history}
use Rattle.mc_model.specs.Sight.{Sight}
use Rattle.mc_model.specs.Step.{Event}
use Rattle.mc_model.specs.Game.{AreSettings}
use Rattle.mc_model.specs.Minds.{Start}
use Rattle.mc_model.specs.Stages.{is_closed}
use Rattle.mc_flush.specs.Seeing.{Parts}
use Rattle.mc_model.specs.Link.{Link}
use Rattle.mc_model.specs.World.{Unread, World, new_world, unread_of}
use Rattle.mc_links.specs.Kept.{ConnectionValue}
use Rattle.mc_links.specs.Sitting.{Holds}
use Rattle.mc_showing.specs.Shown.{Shows, pairs_of}
use Rattle.mc_events.specs.Served.{ServerValue, shown_parts}

-- some events lead to the world
pub record IsReached (w : World) : Type 0 where
  -- what it began with
  pub start : Start
  pub settings : AreSettings start.settings.players start.settings.cap
  pub events : List Event
  pub bytes : AreBytes events
  pub is : w ≡ history (new_world start) events

-- what the splitter and the mark of a connection keep, as long as it is open
pub record Remembers (parts : Parts) (unread : Unread) (shown : Option Sight)
    (c : ConnectionValue) : Type 0 where
  pub holds : Holds c.splitter unread
  pub shows : Shows parts c.mark shown

-- a connection that joined under a number stands for a link
pub record IsLinked (parts : Parts) (k : ℕ) (unread : Unread) (shown : Option Sight)
    (c : ConnectionValue) (l : Link) : Type 0 where
  pub id : c.id ≡ k
  pub link : c.link ≡ l
  pub remembers : is_closed l.stage ≡ false → Remembers parts unread shown c

-- neither is there without the other
abbrev pub Pair : Parts → ℕ → Unread → Option Sight → Option ConnectionValue → Option Link → Type 0
Pair parts k unread shown (Some c) (Some l) = IsLinked parts k unread shown c l
Pair parts k unread shown None None = Unit {0}
Pair parts k unread shown c l = ⊥

pub record Stands (server : ServerValue) (w : World) : Type 0 where
  pub works : server.failed ≡ false
  pub game : server.game.game ≡ w.game
  pub last : server.last ≡ w.last
  -- the list has just the players in play
  pub listed : server.list.present ≡ pairs_of w.game
  pub each : (k : ℕ) → Pair (shown_parts server) k (unread_of k w) (get w.shown k)
      (get server.connections k) (get w.links k)
  pub reached : IsReached w

-- a server that ran out of memory
abbrev pub HasFailed : ServerValue → Type 0
HasFailed server = server.failed ≡ true

-- how many bytes a connection is owed, none where there is none
abbrev pub owed_by : Option ConnectionValue → List ℕ
owed_by None = []
owed_by (Some c) = c.link.owed

abbrev pub owes : ℕ → ServerValue → ℕ
owes k server = length (owed_by (get server.connections k))
