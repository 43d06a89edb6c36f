-- What a server stands for within a tick, and what connections are closed by it. Rules of this
-- project.
use Rattle.std.specs.Prelude.{◌≡◌, ℕ, Bool, false, List, Option, Some, None}
use Rattle.std.specs.List.{filter}
use Rattle.std.specs.Ordering.{nat_cmp}
use Rattle.std.specs.FinMap.{FinMap, get, keys}
use Rattle.mc_flush.specs.Lists.{ListValue}
use Rattle.mc_flush.specs.Seeing.{present_parts, settled_parts}
use Rattle.mc_model.specs.Stages.{is_closed, is_play}
use Rattle.mc_model.specs.Game.{Game}
use Rattle.mc_model.specs.Good.{Good, GoodWorld}
use Rattle.mc_model.specs.Leaving.{leave_all}
use Rattle.mc_model.specs.Link.{Link}
use Rattle.mc_model.specs.Tick.{told}
use Rattle.mc_model.specs.World.{World, unread_of}
use Rattle.mc_links.specs.Kept.{ConnectionValue}
use Rattle.mc_links.specs.Showing.{IsShown}
use Rattle.mc_play.specs.Kept.{GameValue, land_of}
use Rattle.mc_showing.specs.Preparing.{IsReadyFor}
use Rattle.mc_showing.specs.Shown.{IsListed, pairs_of}
use Rattle.mc_events.specs.Served.{Each, ServerValue, shown_parts}
use Rattle.mc_events.specs.Stands.{Pair}

-- an open connection that is not in play was shown nothing
abbrev pub IsBare : World → Type 0
IsBare w = (k : ℕ) (l : Link) → get w.links k ≡ Some l → is_play l.stage ≡ false →
    is_closed l.stage ≡ false → get w.shown k ≡ None

-- as `Stands`, of a world that no events lead to, since it is one within a tick
pub record StandsAmid (server : ServerValue) (w : World) : Type 0 where
  pub works : server.failed ≡ false
  pub game : server.game.game ≡ w.game
  pub last : server.last ≡ w.last
  pub listed : server.list.present ≡ pairs_of w.game
  pub each : (k : ℕ) → Pair (shown_parts server) k (unread_of k w) (get w.shown k)
      (get server.connections k) (get w.links k)
  pub good : GoodWorld w
  pub bare : IsBare w

-- a connection is there and closed
abbrev pub is_shut : Option ConnectionValue → Bool
is_shut None = false
is_shut (Some c) = is_closed c.link.stage

-- one of these numbers has such a connection
abbrev pub is_shut_in : FinMap nat_cmp ConnectionValue → ℕ → Bool
is_shut_in connections k = is_shut (get connections k)

-- the players of those of the numbers leave whose connections are there and closed
abbrev pub dismissed : FinMap nat_cmp ConnectionValue → List ℕ → Game → Game
dismissed connections ks g = leave_all (filter (is_shut_in connections) ks) g

-- the list has just the players of a good game, where it had those of a good game before
abbrev pub StaysListed : ListValue → ListValue → Game → Game → Type 0
StaysListed old new g h = Good g → old.present ≡ pairs_of g → new.present ≡ pairs_of h

-- what the client of each connection is to be shown and was not is ready
abbrev pub AreReady : GameValue → FinMap nat_cmp ConnectionValue → Type 0
AreReady v connections = (k : ℕ) (c : ConnectionValue) → get connections k ≡ Some c →
    IsReadyFor v c.id c.mark

-- each connection is shown the game, as the players of the list and the cells were and are, where
-- the list has just the players in play
abbrev pub AreShown : GameValue → ListValue → FinMap nat_cmp ConnectionValue →
    FinMap nat_cmp ConnectionValue → Type 0
AreShown v list old new = Each (λ (k : ℕ) (c d : ConnectionValue). IsListed list v.game →
    IsShown v (settled_parts (land_of v) list) (present_parts (land_of v) list) c d) old new

-- all were told the game, and then the players left whose connections are closed
pub record IsEnded (old new : ServerValue) : Type 0 where
  pub game : new.game.game
      ≡ dismissed old.connections (keys old.connections) (told old.game.game)
  pub settled : new.game.settled ≡ old.game.game.edits
  pub listed : StaysListed old.list new.list (told old.game.game) new.game.game
  pub before : new.list.last ≡ old.list.present
  pub rest : new ≡ record old { game = new.game; list = new.list }
