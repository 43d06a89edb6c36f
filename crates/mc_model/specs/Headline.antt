-- The whole promise about a run, over the list of its events, whatever they are and however the
-- bytes in them are cut. Rules of this project.
use Rattle.std.specs.Prelude.{◌≡◌, ◌≢◌, ℕ, true, false, List, [], ◌∷◌, ◌++◌, map, Some, None, Ok}
use Rattle.std.specs.List.{AllByRecursion}
use Rattle.std.specs.FinMap.{get}
use Rattle.mc_fields.specs.Row.{packet_of, packet_read}
use Rattle.mc_hello.specs.declared.login_up.LoginUp.TheVariants.{Start}
use Rattle.mc_hello.specs.LoginUp as login
use Rattle.mc_model.specs.declared.cause.Cause.{Cause}
use Rattle.mc_model.specs.declared.cause.Cause.TheVariants as causes
use Rattle.mc_model.specs.declared.cause.Refusal.{Refusal}
use Rattle.mc_model.specs.declared.stage.Stage.TheVariants as stages
use Rattle.mc_model.specs.declared.player.Player.{Player}
use Rattle.mc_model.specs.Decoding.{IsDecoded, decoder_of}
use Rattle.mc_model.specs.Names.{offline_uuid}
use Rattle.mc_model.specs.Packets.{Sent, bytes_of, of_play, played}
use Rattle.mc_model.specs.Replica.{Replica, Shows, new_replica, replay}
use Rattle.mc_model.specs.Run.{to, cause_in, handed, history, received, stream}
use Rattle.mc_model.specs.Step.{Event, came, ticked, refusal, step}
use Rattle.mc_model.specs.Talk.{accepted, farewell, refused}
use Rattle.mc_model.specs.Leaving.{leave_all}
use Rattle.mc_model.specs.Link.{Handing, Link, disconnect, mark_closed, quiet}
use Rattle.mc_model.specs.Showing.{due, last_shown, sight_of}
use Rattle.mc_model.specs.Minds.{Start as Begun}
use Rattle.mc_model.specs.World.{Outcome, World, new_world}
use Rattle.mc_model.specs.Tick.{at_tick, awaiting, grown, is_silent, told, told_player}
use Rattle.mc_model.specs.Good.{GoodWorld}
use Rattle.mc_model.specs.Apart.{IsOf, OnlySender, cut_behind}
use Rattle.mc_model.specs.Promised.{Lasts, Promised}
use Rattle.mc_model.specs.Causes.{ClosesFirst, IsTooMuch}
use Rattle.mc_model.specs.Balance.{Balance}

-- ---- what is shown

-- a replica shows just what there is to be shown to the player of a connection
pub record ShowsGame (w : World) (k : ℕ) (r : Replica) : Type 0 where
  pub player : Player
  pub plays : get w.game.players k ≡ Some player
  pub shows : Shows r (sight_of w.game player (last_shown (get w.shown k)))

-- ---- a tick

-- what is due to a player of a connection at a tick
abbrev pub due_to : World → ℕ → Player → List Sent
due_to w k p = map of_play (due (at_tick w).game (get w.shown k) p)

-- a connection is closed, and its player is gone
pub record IsEnded (k : ℕ) (o : Outcome) (h : Handing) : Type 0 where
  pub link : get o.world.links k ≡ Some h.link
  pub gone : get o.world.game.players k ≡ None
  pub handed : to k o.out ≡ h.handed

-- It is handed just what is due to it, and owes an answer where a beat was told. Its player was
-- shown the game of the tick, with all that was said since it joined, and nothing is noted for it.
pub record IsServed (w : World) (k : ℕ) (l : Link) (p : Player) (o : Outcome) : Type 0 where
  pub handed : to k o.out ≡ due_to w k p
  pub link : get o.world.links k
      ≡ Some (record (awaiting (grown w.game) (get w.shown k) l) {
        owed = l.owed ++ bytes_of (due_to w k p);
      })
  pub player : get o.world.game.players k ≡ Some (told_player p)
  pub shown : get o.world.shown k
      ≡ Some (sight_of (at_tick w).game p (last_shown (get w.shown k)))

-- what a tick hands out, and what it leaves, from the world before it
pub record AtTick (w : World) : Type 0 where
  -- a client in play that is silent is handed its farewell and nothing more, and is closed of it
  pub silent : (k : ℕ) (l : Link) (p : Player) → get w.links k ≡ Some l →
      get w.game.players k ≡ Some p → is_silent (grown w.game) (get w.shown k) l ≡ true →
      IsEnded k (step w ticked) (disconnect l causes.Silent (farewell l.stage causes.Silent))
  -- any other is served, unless that is more than its outbox holds
  pub hands_due : (k : ℕ) (l : Link) (p : Player) → get w.links k ≡ Some l →
      get w.game.players k ≡ Some p → is_silent (grown w.game) (get w.shown k) l ≡ false →
      ¬ IsTooMuch l (due_to w k p) → IsServed w k l p (step w ticked)
  -- where it is more, nothing is handed to it, and it is closed and owed nothing
  pub too_much : (k : ℕ) (l : Link) (p : Player) → get w.links k ≡ Some l →
      get w.game.players k ≡ Some p → is_silent (grown w.game) (get w.shown k) l ≡ false →
      IsTooMuch l (due_to w k p) → IsEnded k (step w ticked) (quiet
      (record (mark_closed (awaiting (grown w.game) (get w.shown k) l) causes.Backlog) {
        owed = [];
      }))
  -- nobody else is handed anything, and each other connection is as it was
  pub others : (k : ℕ) → get w.game.players k ≡ None →
      (to k (step w ticked).out ≡ []) × (get (step w ticked).world.links k ≡ get w.links k)

-- a player in the world of a tick, whose connection the tick closes since too much was due to it
pub record IsDropped (w : World) (k : ℕ) : Type 0 where
  pub player : Player
  pub played : get (at_tick w).game.players k ≡ Some player
  pub cause : cause_in k (step w ticked).world ≡ Some causes.Backlog

-- After a tick the game is the one that clients were shown, once all were told it; but those
-- players have left it to whom too much was due. Where there are none, it is just that game.
pub record AfterTick (w : World) : Type 0 where
  pub gone : List ℕ
  pub dropped : AllByRecursion (IsDropped w) gone
  pub game : (step w ticked).world.game ≡ leave_all gone (told (at_tick w).game)
  pub same : ((k : ℕ) → ¬ IsDropped w k) →
      (step w ticked).world.game ≡ told (at_tick w).game

-- ---- between two ticks

-- a client whose player was in play plays on under its name and is handed nothing, or it is closed,
-- and handed just the farewell of the cause that is kept
pub data Between (w : World) (e : Event) (k : ℕ) (p : Player) : Type 0 where
  plays_on : (m : Link) (q : Player) → get (step w e).world.links k ≡ Some m →
      m.stage ≡ stages.Play → get (step w e).world.game.players k ≡ Some q → q.name ≡ p.name →
      get (step w e).world.shown k ≡ get w.shown k → to k (step w e).out ≡ [] → Between w e k p
  ends : (cause : Cause) (m : Link) → get (step w e).world.links k ≡ Some m →
      m.stage ≡ stages.Closed → m.cause ≡ Some cause →
      get (step w e).world.game.players k ≡ None →
      to k (step w e).out ≡ farewell stages.Play cause → Between w e k p

-- the first frame of the bytes that come, behind those that were not read, asks to play under a
-- name
pub record Asks (w : World) (e : Event) (k : ℕ) (name : List ℕ) : Type 0 where
  pub bytes : List ℕ
  pub comes : e ≡ came k bytes
  pub frame : List ℕ
  pub later : List (List ℕ)
  pub first : (cut_behind w k bytes).frames ≡ frame ∷ later
  pub starts : packet_of frame (packet_read login.rows frame) ≡ Ok (Start name)

-- One that logs in waits, is let in under the name that came, is refused, or is closed with the
-- farewell of a login; or it is let in and closed at once. Who is let in is told that name and its
-- offline identifier.
pub data LoggingIn (w : World) (e : Event) (k : ℕ) (l : Link) : Type 0 where
  waits : (m : Link) → get (step w e).world.links k ≡ Some m → m.stage ≡ stages.Login →
      to k (step w e).out ≡ [] → LoggingIn w e k l
  is_let_in : (name : List ℕ) (m : Link) (p : Player) → Asks w e k name →
      refusal w.game l.protocol name ≡ None → get (step w e).world.links k ≡ Some m →
      m.stage ≡ stages.Play → get (step w e).world.game.players k ≡ Some p → p.name ≡ name →
      p.uuid ≡ offline_uuid name →
      to k (step w e).out ≡ accepted (offline_uuid name) name → LoggingIn w e k l
  is_refused : (name : List ℕ) (reason : Refusal) (m : Link) → Asks w e k name →
      refusal w.game l.protocol name ≡ Some reason → get (step w e).world.links k ≡ Some m →
      m.stage ≡ stages.Closed → m.cause ≡ Some (causes.Refused reason) →
      to k (step w e).out ≡ refused reason → LoggingIn w e k l
  ends : (cause : Cause) (m : Link) → get (step w e).world.links k ≡ Some m →
      m.stage ≡ stages.Closed → m.cause ≡ Some cause →
      to k (step w e).out ≡ farewell stages.Login cause → LoggingIn w e k l
  enters_and_ends : (name : List ℕ) (cause : Cause) (m : Link) → Asks w e k name →
      refusal w.game l.protocol name ≡ None → get (step w e).world.links k ≡ Some m →
      m.stage ≡ stages.Closed → m.cause ≡ Some cause →
      to k (step w e).out ≡ accepted (offline_uuid name) name ++ farewell stages.Play cause →
      LoggingIn w e k l

-- ---- closing

-- what an event closes, and what it leaves alone
pub record Closing (w : World) (e : Event) : Type 0 where
  -- just the connections that it has a cause to close, each for that
  pub first : ClosesFirst w e
  -- a closed one stays so, for the same cause, and is handed nothing
  pub for_good : (k : ℕ) (l : Link) → get w.links k ≡ Some l → l.stage ≡ stages.Closed →
      (to k (step w e).out ≡ []) ×
      ((m : Link) → get (step w e).world.links k ≡ Some m →
      (m.stage ≡ stages.Closed) × (m.cause ≡ l.cause))
  -- any event but a tick is of one connection: it hands nothing to any other, and leaves its link,
  -- its unread bytes, what it was shown, and of its player all but the notes and the chest that it
  -- is shown
  pub only_sender : (j : ℕ) → IsOf j e → OnlySender j w (step w e)

-- ---- a run

pub record Headline (start : Begun) (log : List Event) : Type 0 where
  -- after each tick, the packets that a client in play decodes from the bytes that it was handed,
  -- folded from nothing, show exactly the game in its view
  pub shows : (events later : List Event) (k : ℕ) (p : Player) (packets : List Sent) →
      log ≡ events ++ ticked ∷ [] ++ later →
      get (history (new_world start) (events ++ ticked ∷ [])).game.players k ≡ Some p →
      IsDecoded (decoder_of (received k (new_world start) (events ++ ticked ∷ [])))
      (stream k (new_world start) (events ++ ticked ∷ [])) packets →
      ShowsGame (at_tick (history (new_world start) events)) k
      (replay new_replica (played packets))
  -- at each moment, a client decodes those bytes, by the handshake that it sent, and as the packets
  -- that it was handed
  pub decoded : (events later : List Event) (k : ℕ) → log ≡ events ++ later →
      IsDecoded (decoder_of (received k (new_world start) events))
      (stream k (new_world start) events) (handed k (new_world start) events)
  -- At each moment there are players exactly for the connections in play, and no connection has a
  -- number that may join next. Each player is one entity, which has its number and its identifier
  -- and holds what its pack has at its hand; and each entity of a player is of one in play. Packets
  -- can tell what is in the game.
  pub good : (events later : List Event) → log ≡ events ++ later →
      GoodWorld (history (new_world start) events)
  -- the bytes that a client took are the first ones of those that it was handed, and no others are
  -- missing but those that it is owed, and those that went as it left, as it broke or as Backlog;
  -- it is closed exactly where a cause is kept of it, which is the first that it was closed for
  pub promised : (events later : List Event) (k : ℕ) → log ≡ events ++ later →
      Promised k (new_world start) events
  -- a connection is there until it is forgotten, which is when it is closed and owed nothing
  pub stays : (events : List Event) (e : Event) (later : List Event) (k : ℕ) (l : Link) →
      log ≡ events ++ e ∷ [] ++ later →
      get (history (new_world start) events).links k ≡ Some l →
      Lasts k (history (new_world start) events) e l
  -- each tick hands out just what is due
  pub ticks : (events later : List Event) → log ≡ events ++ ticked ∷ [] ++ later →
      AtTick (history (new_world start) events)
  -- and leaves the game that clients were shown
  pub after : (events later : List Event) → log ≡ events ++ ticked ∷ [] ++ later →
      AfterTick (history (new_world start) events)
  -- between two ticks a client in play is handed at most its farewell
  pub between : (events : List Event) (e : Event) (later : List Event) (k : ℕ) (p : Player) →
      log ≡ events ++ e ∷ [] ++ later →
      get (history (new_world start) events).game.players k ≡ Some p → e ≢ ticked →
      Between (history (new_world start) events) e k p
  -- and one that logs in the answer to its login
  pub logging_in : (events : List Event) (e : Event) (later : List Event) (k : ℕ) (l : Link) →
      log ≡ events ++ e ∷ [] ++ later →
      get (history (new_world start) events).links k ≡ Some l → l.stage ≡ stages.Login →
      LoggingIn (history (new_world start) events) e k l
  -- each event closes just the connections that it has a cause to close
  pub closing : (events : List Event) (e : Event) (later : List Event) →
      log ≡ events ++ e ∷ [] ++ later → Closing (history (new_world start) events) e
  -- at each moment no item was lost or made but by kits, digging and placing
  pub balance : (events later : List Event) → log ≡ events ++ later →
      Balance (history (new_world start) events).game
