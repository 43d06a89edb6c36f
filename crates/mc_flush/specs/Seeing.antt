-- What a client is to be shown, of the parts that a view borrows, and what a mark stands for.
use Rattle.std.specs.Prelude.{◌≡◌, ℕ, ◌≤◌, Bool, List, ◌++◌, map, length, replicate, Option}
use Rattle.std.specs.Prelude.{Some, None, is_some, option_map, if◌then◌else◌}
use Rattle.std.specs.List.{filter}
use Rattle.std.specs.FinMap.{FinMap, empty, from_entries, get}
use lib.IntN.{ℤ, pos, negsuc}
use Rattle.mc_column.specs.Cells.{ColumnValue}
use Rattle.mc_fields.specs.declared.position.Spot.{Spot}
use Rattle.mc_land.specs.declared.terrain.Terrain.{Terrain}
use Rattle.mc_land.specs.Places.{Place, key_cmp, place_cmp}
use Rattle.mc_land.specs.Land.{LandValue}
use Rattle.mc_slots.specs.declared.pile.Pile.{Pile}
use Rattle.mc_slots.specs.declared.pile.Pile.TheVariants.{Empty}
use Rattle.mc_slots.specs.Pile.{slot_of}
use Rattle.mc_windows.specs.Pack.{PackValue, IsPack, pack_size}
use Rattle.mc_entities.specs.declared.entity.Entity.{Entity}
use Rattle.mc_packets.specs.declared.down.Down.{Down}
use Rattle.mc_view.specs.declared.view_set.ViewSet.{ViewSet}
use Rattle.mc_view.specs.Sets.{all_of, has, is_within}
use Rattle.mc_view.specs.Told.{Told}
use Rattle.mc_model.specs.declared.notes.Notes.{Notes}
use Rattle.mc_model.specs.Sight.{ChestWindow, Sight, seen_of, window_seen}
use Rattle.mc_model.specs.Spots.{spawn_spot, spot_in}
use Rattle.mc_model.specs.Notes.{confirm_packet, noted_packets, notes_of}
use Rattle.mc_model.specs.Delta.{Pairs, missing, leaver, joiner, about, beat_packets, time_packets}
use Rattle.mc_model.specs.Delta.{chat_packet, cursor_packets, destroying, window_changes}
use Rattle.mc_told.specs.Telling.{age_now, beat_now, entity_frames, gone_from, in_view, kept_of}
use Rattle.mc_told.specs.Telling.{told_slot}
use Rattle.mc_loads.specs.Columns.{changed_packets, entered_of, left_of, load_packets, placed_with}
use Rattle.mc_loads.specs.Columns.{unload_packets}
use Rattle.mc_flush.specs.declared.windows.Window.{Window}
use Rattle.mc_flush.specs.Lists.{ListValue}

-- ---- what all clients are shown a part of

-- the players and the cells of the land, at one time
pub record Parts : Type 0 where
  pub players : Pairs
  pub terrain : Terrain
  pub edits : FinMap key_cmp ℕ

-- as they are now, and as they were at the last settling of both
abbrev pub present_parts : LandValue → ListValue → Parts
present_parts land list =
    record { players = list.present; terrain = land.terrain; edits = land.edits }

abbrev pub settled_parts : LandValue → ListValue → Parts
settled_parts land list =
    record { players = list.last; terrain = land.terrain; edits = land.settled }

abbrev pub columns_of : Parts → ViewSet → FinMap place_cmp ColumnValue
columns_of parts view = from_entries (map (placed_with parts.terrain parts.edits) (all_of view))

-- what a client is to be shown: the beat and the age, the players that are in the list now, the
-- columns of the view as they are, the entities in it that are not its own, the window of a chest,
-- its pack and cursor, and all that was said
abbrev pub seen : LandValue → ListValue → List Entity → PackValue → Option (List Pile) → ViewSet →
    ℕ → List (List ℕ) → Sight
seen land list entities pack chest view age chat = record {
  beat = beat_now age;
  age = age_now age;
  pairs = list.present;
  columns = columns_of (present_parts land list) view;
  entities = from_entries (map seen_of (in_view view entities));
  window = window_seen pack chest;
  pack = map slot_of pack.slots;
  cursor = slot_of pack.cursor;
  chat = chat;
}

-- ---- what was shown

-- the window of a chest that a mark keeps, and how it was seen
abbrev pub window_kept : PackValue → Option (List Pile) → Option Window
window_kept pack chest =
    option_map (λ (piles : List Pile). record { number = pack.window; chest = piles }) chest

abbrev pub seen_window : Window → ChestWindow
seen_window w = record { number = w.number; slots = map slot_of w.chest }

-- what contracts see of a mark
pub record MarkValue : Type 0 where
  -- the beat and the age that were told last
  pub beat : Option ℤ
  pub age : Option ℤ
  -- the view whose columns were shown, none before the first tick
  pub view : Option ViewSet
  -- what was told of entities
  pub told : Told
  -- the window of the chest that was shown, if one was
  pub window : Option Window
  -- the piles of the pack that were shown, and what hung on the cursor
  pub slots : List Pile
  pub cursor : Pile

abbrev pub nothing_shown : MarkValue
nothing_shown = record {
  beat = None;
  age = None;
  view = None;
  told = empty;
  window = None;
  slots = replicate pack_size Empty;
  cursor = Empty;
}

-- whether anything was shown
abbrev pub is_shown : MarkValue → Bool
is_shown mark = is_some mark.view

-- the players and the columns that were shown, of the parts as they were: none before the first
-- tick
abbrev pub pairs_in : Option ViewSet → Parts → Pairs
pairs_in None parts = empty
pairs_in (Some view) parts = parts.players

abbrev pub columns_in : Option ViewSet → Parts → FinMap place_cmp ColumnValue
columns_in None parts = empty
columns_in (Some view) parts = columns_of parts view

-- a mark stands for a sight, of the parts as they were; of what was said it says nothing, and of
-- entities not what they are
pub record Shown (mark : MarkValue) (parts : Parts) (p : Sight) : Type 0 where
  pub beat : p.beat ≡ mark.beat
  pub age : p.age ≡ mark.age
  pub pairs : p.pairs ≡ pairs_in mark.view parts
  pub columns : p.columns ≡ columns_in mark.view parts
  pub entities : (eid : ℤ) →
      option_map kept_of (get p.entities eid) ≡ option_map told_slot (get mark.told eid)
  pub window : p.window ≡ option_map seen_window mark.window
  pub pack : p.pack ≡ map slot_of mark.slots
  pub cursor : p.cursor ≡ slot_of mark.cursor

unfoldable pub StandsFor : MarkValue → Parts → Sight → Type 0
StandsFor mark parts p = Shown mark parts p

-- a mark that says of a whole pack and of a cursor
pub record IsMark (mark : MarkValue) : Type 0 where
  pub pack : IsPack mark.slots mark.cursor

-- ---- what differs from what was shown

-- the columns that are not shown any more, those that were not shown before, and those that stay
abbrev pub unloaded : MarkValue → ViewSet → List Place
unloaded mark view = left_of mark.view view

abbrev pub loaded : MarkValue → ViewSet → List Place
loaded mark view = entered_of mark.view view

abbrev pub shown_among : MarkValue → List Place → List Place
shown_among mark places = filter (is_within mark.view) places

abbrev pub stayed : MarkValue → ViewSet → List Place
stayed mark view = shown_among mark (all_of view)

-- the players that were shown
abbrev pub listed : MarkValue → ListValue → Pairs
listed mark list = if is_shown mark then list.last else empty

-- those who left, and those who came
abbrev pub leaver_packets : Pairs → Pairs → List Down
leaver_packets before now = about (pos 4) (map leaver (missing before now))

abbrev pub joiner_packets : Pairs → Pairs → List Down
joiner_packets before now = about (pos 0) (map joiner (missing now before))

abbrev pub player_packets : Pairs → Pairs → List Down
player_packets before now = leaver_packets before now ++ joiner_packets before now

-- what differs of columns
abbrev pub column_packets : LandValue → MarkValue → ViewSet → List Down
column_packets land mark view =
    unload_packets (unloaded mark view)
    ++ (load_packets land (loaded mark view) ++ changed_packets land (stayed mark view))

-- what differs of the window that is shown, and of the pack
abbrev pub window_packets : MarkValue → PackValue → Option (List Pile) → List Down
window_packets mark pack chest =
    window_changes (option_map seen_window mark.window) (window_seen pack chest)
    (map slot_of mark.slots) (map slot_of pack.slots)

-- and the cursor, where something else hangs on it
abbrev pub held_packets : Pile → Pile → List Down
held_packets old new = cursor_packets (slot_of old) (slot_of new)

abbrev pub carried_packets : MarkValue → PackValue → Option (List Pile) → List Down
carried_packets mark pack chest =
    window_packets mark pack chest ++ held_packets mark.cursor pack.cursor

-- the beat and the age, where others were told
abbrev pub age_packets : MarkValue → ℕ → List Down
age_packets mark age =
    beat_packets mark.beat (beat_now age) ++ time_packets mark.age (age_now age)

-- what was said
abbrev pub line_packets : List (List ℕ) → List Down
line_packets lines = map chat_packet lines

-- all of it, where these lines are new
unfoldable pub changes : LandValue → ListValue → List Entity → PackValue → Option (List Pile) →
    MarkValue → ViewSet → ℕ → List (List ℕ) → List Down
changes land list entities pack chest mark view age lines =
    beat_packets mark.beat (beat_now age)
    ++ (time_packets mark.age (age_now age)
    ++ (leaver_packets (listed mark list) list.present
    ++ (joiner_packets (listed mark list) list.present
    ++ (destroying (gone_from mark.told entities view)
    ++ (unload_packets (unloaded mark view)
    ++ (load_packets land (loaded mark view)
    ++ (changed_packets land (stayed mark view)
    ++ (entity_frames mark.told entities view
    ++ (window_packets mark pack chest
    ++ (held_packets mark.cursor pack.cursor ++ line_packets lines))))))))))

-- where the player of a client is and looks: as the entity of its number, or where players enter,
-- if there is none
abbrev pub spot_seen : LandValue → List Entity → ℤ → Spot
spot_seen land entities (pos eid) = spot_in land.terrain entities eid
spot_seen land entities (negsuc n) = spawn_spot land.terrain

-- what was noted: answers to clicks, cells in the view as they are, and all else, of a player
-- that is at a spot, carries a pack and may be shown a chest
abbrev pub noted_of : LandValue → ViewSet → Notes → Spot → PackValue → Option (List Pile) →
    List Down
noted_of land view notes spot pack chest =
    map confirm_packet notes.confirms
    ++ noted_packets land.terrain land.edits (has view) notes.cells
    ++ notes_of notes spot pack chest

-- ---- what is asked of the parts

-- a name that the list's packet can carry: 16 code points at most, of four bytes at most
abbrev pub IsNamed : ℕ × List ℕ → Type 0
IsNamed e = length e.1 ≤ 64
