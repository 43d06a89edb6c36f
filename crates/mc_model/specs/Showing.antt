-- What a player is to be shown of the game, and what its client is sent for it: from the game and
-- from what it was shown at the last tick. Rules of this project.
use Rattle.std.specs.Prelude.{List, [], ◌++◌, drop, map, Option, Some, is_some, unwrap_or}
use Rattle.std.specs.Prelude.{if◌then◌else◌}
use Rattle.std.specs.List.{filter}
use Rattle.std.specs.FinMap.{from_entries}
use lib.IntN.{pos}
use Rattle.mc_slots.specs.Pile.{slot_of}
use Rattle.mc_packets.specs.declared.down.Down.{Down}
use Rattle.mc_land.specs.Places.{Place}
use Rattle.mc_model.specs.declared.player.Player.{Player}
use Rattle.mc_model.specs.Delta.{delta}
use Rattle.mc_model.specs.Sight.{Sight, nothing_seen, others, seen_of, window_seen}
use Rattle.mc_model.specs.Notes.{confirm_packet, notes_of, noted_packets}
use Rattle.mc_model.specs.Opening.{opening_of}
use Rattle.mc_model.specs.Ticks.{beat_at, shown_age}
use Rattle.mc_model.specs.Game.{Game, chest_of, column_in, is_in_sight, pack_of, players_of, sees}
use Rattle.mc_model.specs.Game.{spot_of, view_in}

-- what was shown at the last tick, nothing before the first
abbrev pub last_shown : Option Sight → Sight
last_shown shown = unwrap_or shown nothing_seen

-- To a player that was shown a sight: the beat and the age, the players in play, the columns of its
-- view as they are, the entities in it but its own, the window of the chest that it is shown, its
-- pack and cursor, and what was said since it joined.
unfoldable pub sight_of : Game → Player → Sight → Sight
sight_of g p last = record {
  beat = Some (pos (beat_at g.age));
  age = Some (pos (shown_age g.age));
  pairs = from_entries (map (λ (other : Player). (other.uuid, other.name)) (players_of g));
  columns = from_entries (map (λ (place : Place). (place, column_in g place)) (view_in g p));
  entities = from_entries (map seen_of
      (filter (is_in_sight g p) (others (pos p.eid) g.entities)));
  window = window_seen (pack_of g p) (chest_of g p);
  pack = map slot_of (pack_of g p).slots;
  cursor = slot_of (pack_of g p).cursor;
  chat = last.chat ++ drop p.since g.lines;
}

-- once
abbrev pub opening_due : Game → Option Sight → Player → List Down
opening_due g shown p =
    if is_some shown then []
    else opening_of g.settings.terrain g.settings.players (pos p.eid) (spot_of g p)

-- the answers to clicks, the noted cells and then all else, as the game is at the tick
abbrev pub notes_due : Game → Player → List Down
notes_due g p =
    map confirm_packet p.notes.confirms
    ++ noted_packets g.settings.terrain g.edits (sees g p) p.notes.cells
    ++ notes_of p.notes (spot_of g p) (pack_of g p) (chest_of g p)

-- what a player is sent at a tick: the opening once, the difference, and the notes
unfoldable pub due : Game → Option Sight → Player → List Down
due g shown p =
    opening_due g shown p
    ++ delta (last_shown shown) (sight_of g p (last_shown shown)) ++ notes_due g p
