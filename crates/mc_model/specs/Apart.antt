-- What one connection does not change of another; and two worlds that are the same but for one
-- connection, which is closed or not there in both. Rules of this project.
use Rattle.std.specs.Prelude.{◌≡◌, ◌≢◌, ℕ, true, false, List, [], ◌∷◌, ◌++◌, map, Option, Some}
use Rattle.std.specs.Prelude.{None, option_map}
use Rattle.std.specs.FinMap.{get}
use lib.IntN.{ℤ}
use Rattle.mc_frame.specs.declared.fault.FrameFault.{FrameFault}
use Rattle.mc_frame.specs.Cut.{Cut}
use Rattle.mc_model.specs.declared.player.Player.{Player}
use Rattle.mc_model.specs.Cutting.{cut_of}
use Rattle.mc_model.specs.Packets.{of_play}
use Rattle.mc_model.specs.Run.{to}
use Rattle.mc_model.specs.Step.{Event, joined, came, left, broke, ticked, took, forgot, asked_by}
use Rattle.mc_model.specs.Step.{is_crowded, on_frames}
use Rattle.mc_model.specs.Talk.{ClientRequest, acts, wrong}
use Rattle.mc_model.specs.Stages.{is_closed}
use Rattle.mc_model.specs.Link.{Link}
use Rattle.mc_slots.specs.declared.pile.Pile.TheVariants.{Empty}
use Rattle.mc_model.specs.Acts.{act}
use Rattle.mc_model.specs.Game.{pack_of}
use Rattle.mc_model.specs.Showing.{due}
use Rattle.mc_model.specs.Tick.{at_tick, grown, is_silent}
use Rattle.mc_model.specs.Causes.{IsTooMuch}
use Rattle.mc_model.specs.World.{Outcome, Seat, World, seat_of, unread_of}

-- an event is of a connection
abbrev pub IsOf : ℕ → Event → Type 0
IsOf k (joined j) = j ≡ k
IsOf k (came j bytes) = j ≡ k
IsOf k (left j) = j ≡ k
IsOf k (broke j) = j ≡ k
IsOf k ticked = ⊥
IsOf k (took j n) = j ≡ k
IsOf k (forgot j) = j ≡ k

-- ---- what only its own connection changes

-- what of a player only its own connection changes
pub record Traits : Type 0 where
  pub name : List ℕ
  pub uuid : ℕ
  pub eid : ℕ
  pub view_byte : ℤ
  pub hand : ℕ
  pub since : ℕ

abbrev pub traits_of : Player → Traits
traits_of p = record {
  name = p.name;
  uuid = p.uuid;
  eid = p.eid;
  view_byte = p.view_byte;
  hand = p.hand;
  since = p.since;
}

-- What becomes of the world by one connection hands nothing to any other. It changes of none its
-- stage, its cause, what it is owed, how many answers it misses, what is unread of it, what it was
-- shown, and who its player is; nor what mobs are still to do.
pub record OnlySender (k : ℕ) (w : World) (o : Outcome) : Type 0 where
  pub handed : (j : ℕ) → j ≢ k → to j o.out ≡ []
  pub links : (j : ℕ) → j ≢ k → get o.world.links j ≡ get w.links j
  pub unread : (j : ℕ) → j ≢ k → get o.world.unread j ≡ get w.unread j
  pub shown : (j : ℕ) → j ≢ k → get o.world.shown j ≡ get w.shown j
  pub traits : (j : ℕ) → j ≢ k →
      option_map traits_of (get o.world.game.players j)
      ≡ option_map traits_of (get w.game.players j)
  pub plans : o.world.plans ≡ w.plans

-- ---- the same but for one connection

-- a connection is closed, or is not there
abbrev pub IsShut : Option Link → Type 0
IsShut None = Unit {0}
IsShut (Some l) = is_closed l.stage ≡ true

pub record SameBut (k : ℕ) (w v : World) : Type 0 where
  pub game : w.game ≡ v.game
  pub plans : w.plans ≡ v.plans
  pub last : w.last ≡ v.last
  pub links : (j : ℕ) → j ≢ k → get w.links j ≡ get v.links j
  pub unread : (j : ℕ) → j ≢ k → get w.unread j ≡ get v.unread j
  pub shown : (j : ℕ) → j ≢ k → get w.shown j ≡ get v.shown j
  pub shut : IsShut (get w.links k)
  pub shut_too : IsShut (get v.links k)

-- each other connection is handed the same
abbrev pub HandsAlike : ℕ → Outcome → Outcome → Type 0
HandsAlike k o q = (j : ℕ) → j ≢ k → to j o.out ≡ to j q.out

-- one step in two worlds that are the same but for a connection: they stay so, and all others are
-- handed the same
pub record AlikeBut (k : ℕ) (o q : Outcome) : Type 0 where
  pub worlds : SameBut k o.world q.world
  pub hands : HandsAlike k o q

-- nobody is crowded out by an event
abbrev pub LetsIn : World → Event → Type 0
LetsIn w (joined j) = is_crowded w ≡ false
LetsIn w other = Unit {0}

-- an event that is no join
abbrev pub IsNoJoin : Event → Type 0
IsNoJoin (joined j) = ⊥
IsNoJoin other = Unit {0}

-- ---- a bad frame

-- the cut of bytes behind those of a connection that were not read
abbrev pub cut_behind : World → ℕ → List ℕ → Cut
cut_behind w k bytes =
    cut_of (unread_of k w).before ((unread_of k w).rest ++ bytes)

-- the next frame, or the length behind them, closes a connection for what it is: no packet, a
-- number that stands for none, or no length
abbrev pub IsBadRequest : ℕ → Seat → ClientRequest → Type 0
IsBadRequest k s (wrong fault) = Unit {0}
IsBadRequest k s (acts packet) = act s.game k packet ≡ None
IsBadRequest k s other = ⊥

abbrev pub IsBad : ℕ → Seat → List (List ℕ) → Option FrameFault → Type 0
IsBad k s (frame ∷ later) fault = IsBadRequest k s (asked_by s frame)
IsBad k s [] (Some fault) = Unit {0}
IsBad k s [] None = ⊥

-- bytes come to an open connection of which a bad frame closes it; after those before that frame it
-- is open still
pub record HasBadFrame (k : ℕ) (w : World) (bytes : List ℕ) : Type 0 where
  pub link : Link
  pub there : get w.links k ≡ Some link
  pub open_ : is_closed link.stage ≡ false
  pub good : List (List ℕ)
  pub later : List (List ℕ)
  pub parts : (cut_behind w k bytes).frames ≡ good ++ later
  pub still_open : is_closed (on_frames k (seat_of w k link) good).seat.link.stage ≡ false
  pub bad : IsBad k (on_frames k (seat_of w k link) good).seat later (cut_behind w k bytes).fault

-- the first of these bytes that stand before a frame: with what was not read they are just the
-- frames before it, and no fault
pub record StandsBefore (k : ℕ) (w : World) (bytes : List ℕ) (good : List (List ℕ))
    (before : List ℕ) : Type 0 where
  pub first : (more : List ℕ) × (bytes ≡ before ++ more)
  pub whole : (cut_behind w k before).frames ≡ good
  pub clean : (cut_behind w k before).fault ≡ None

-- ---- a tick that closes

-- two worlds that are the same but for the bytes that one connection is owed
pub record OwesOther (k : ℕ) (w v : World) : Type 0 where
  pub game : w.game ≡ v.game
  pub plans : w.plans ≡ v.plans
  pub last : w.last ≡ v.last
  pub links : (j : ℕ) → j ≢ k → get w.links j ≡ get v.links j
  pub unread : (j : ℕ) → j ≢ k → get w.unread j ≡ get v.unread j
  pub shown : w.shown ≡ v.shown
  pub link : Link
  pub owed : List ℕ
  pub here : get w.links k ≡ Some link
  pub there : get v.links k ≡ Some (record link { owed = owed })

-- A client in play that is not silent is due too much at a tick in the first of them, and not in
-- the second, where its outbox has room. Nothing hangs on its cursor: what falls of it as it leaves
-- has another number, and is older, where it leaves at another time.
pub record IsFullIn (k : ℕ) (w v : World) : Type 0 where
  pub alike : OwesOther k w v
  pub player : Player
  pub plays : get w.game.players k ≡ Some player
  pub speaks : is_silent (grown w.game) (get w.shown k) alike.link ≡ false
  pub much : IsTooMuch alike.link (map of_play (due (at_tick w).game (get w.shown k) player))
  pub fits : ¬ IsTooMuch (record alike.link { owed = alike.owed })
      (map of_play (due (at_tick w).game (get w.shown k) player))
  pub empty : (pack_of (at_tick w).game player).cursor ≡ Empty

-- a client in play has been silent for too long at a tick, and nothing hangs on its cursor
pub record FallsSilent (k : ℕ) (w : World) : Type 0 where
  pub link : Link
  pub player : Player
  pub here : get w.links k ≡ Some link
  pub plays : get w.game.players k ≡ Some player
  pub silent : is_silent (grown w.game) (get w.shown k) link ≡ true
  pub empty : (pack_of w.game player).cursor ≡ Empty
