-- A tick: the game is a tick older, those that are silent leave, mobs move, players pick up what lies
-- near them, and every client in play is shown one and the same game. Rules of this project; that a
-- client answers beats is of the page 'Protocol' of wiki.vg for protocol 47, Keep Alive.
use Rattle.std.specs.Prelude.{ℕ, ◌+◌, ◌&&◌, not, nat_le, Bool, List, [], ◌++◌, map, Option, Some}
use Rattle.std.specs.Prelude.{None, if◌then◌else◌}
use Rattle.std.specs.FinMap.{entries, get}
use lib.IntN.{pos}
use Rattle.mc_model.specs.declared.cause.Cause.TheVariants as causes
use Rattle.mc_model.specs.declared.ticks.TheConstants.{MISSED_MAX}
use Rattle.mc_model.specs.declared.player.Player.{Player}
use Rattle.mc_model.specs.Delta.{is_told}
use Rattle.mc_model.specs.Notes.{no_notes}
use Rattle.mc_model.specs.Packets.{Sent, of_play}
use Rattle.mc_model.specs.Sight.{Sight}
use Rattle.mc_model.specs.Talk.{farewell}
use Rattle.mc_model.specs.Ticks.{beat_at, older}
use Rattle.mc_model.specs.Maps.{map_keyed}
use Rattle.mc_model.specs.Game.{Game}
use Rattle.mc_model.specs.Link.{Handing, Link, disconnect, hand, quiet}
use Rattle.mc_model.specs.Minds.{mobs_moved, plans_left}
use Rattle.mc_model.specs.Pickups.{pickups}
use Rattle.mc_model.specs.Showing.{due, last_shown, sight_of}
use Rattle.mc_model.specs.World.{Outcome, World, each}

-- ---- beats

-- a client is to be told the beat, since it was told another or none
abbrev pub is_beat : Game → Option Sight → Bool
is_beat g shown = not (is_told (last_shown shown).beat (pos (beat_at g.age)))

-- and it left as many without an answer as it may
abbrev pub is_silent : Game → Option Sight → Link → Bool
is_silent g shown l = is_beat g shown && nat_le MISSED_MAX l.missed

-- else it owes an answer more
abbrev pub awaiting : Game → Option Sight → Link → Link
awaiting g shown l = record l { missed = l.missed + (if is_beat g shown then 1 else 0) }

abbrev pub beat_of : Game → Option Sight → Link → Option Player → Handing
beat_of g shown l None = quiet l
beat_of g shown l (Some p) =
    if is_silent g shown l then disconnect l causes.Silent (farewell l.stage causes.Silent)
    else quiet (awaiting g shown l)

-- what the beat makes of one connection: of one in play alone something
abbrev pub beat : Game → Option Sight → ℕ → Link → Handing
beat g shown k l = beat_of g shown l (get g.players k)

abbrev pub beats : World → World
beats w = each (λ (k : ℕ) (l : Link). beat w.game (get w.shown k) k l) w

-- ---- the world of a tick

-- the game is a tick older
abbrev pub grown : Game → Game
grown g = record g { age = older g.age }

abbrev pub aged : World → World
aged w = record w { game = grown w.game }

-- mobs move by their plans
abbrev pub moving : World → World
moving w = record w { game = mobs_moved w.plans w.game; plans = plans_left w.game w.plans }

-- players pick up what lies near them
abbrev pub picking : World → World
picking w = record w { game = pickups w.game }

-- the world of a tick, as all clients are shown it: those that were silent for too long are gone,
-- mobs have moved, and players have picked up what they could
abbrev pub at_tick : World → World
at_tick w = picking (moving (beats (aged w)))

-- ---- showing it

abbrev pub flush_of : Game → Option Sight → Link → Option Player → Handing
flush_of g shown l None = quiet l
flush_of g shown l (Some p) = hand l (map of_play (due g shown p))

-- what one connection is handed of a game: one in play alone what is due to it
abbrev pub flush : Game → Option Sight → ℕ → Link → Handing
flush g shown k l = flush_of g shown l (get g.players k)

-- nothing is noted for a player that was shown the game, and it was told all that was said
abbrev pub told_player : Player → Player
told_player p = record p { notes = no_notes; since = 0 }

abbrev pub told : Game → Game
told g = record g {
  lines = [];
  players = map_keyed (λ (k : ℕ) (p : Player). told_player p) g.players;
}

-- every player was shown the game
abbrev pub shown_all : World → World
shown_all w = record w {
  game = told w.game;
  shown = map_keyed
      (λ (k : ℕ) (p : Player). sight_of w.game p (last_shown (get w.shown k))) w.game.players;
}

-- the world after each client in play was handed what is due to it: those that were handed too much
-- leave after all
abbrev pub flushed : World → World
flushed w = each (λ (k : ℕ) (l : Link). flush w.game (get w.shown k) k l) (shown_all w)

-- ---- all of it

-- what a tick hands out to a connection: its farewell where its client is silent, or what is due
abbrev pub tick_hands : World → ℕ → Link → List Sent
tick_hands w k l =
    (beat (grown w.game) (get w.shown k) k l).handed
    ++ (flush (at_tick w).game (get w.shown k) k
    (beat (grown w.game) (get w.shown k) k l).link).handed

-- every client in play is shown the same game
abbrev pub tick : World → Outcome
tick w = record {
  world = flushed (at_tick w);
  out = map (λ (e : ℕ × Link). (e.0, tick_hands w e.0 e.1)) (entries w.links);
}
