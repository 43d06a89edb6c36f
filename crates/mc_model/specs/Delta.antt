-- What leads a client from what it was shown to what it is to be shown: a list of packets made by
-- comparing the two, entry by entry. Which packets, and their order, are rules of this project.
use Rattle.std.specs.Prelude.{◌≡◌, ◌<◌, ◌≤◌, ℕ, ◌+◌, ◌*◌, ◌/◌, ◌%◌, ◌==◌, ◌&&◌, not, Bool, true}
use Rattle.std.specs.Prelude.{false, List, [], ◌∷◌, ◌++◌, codes, drop, length, map, slice_index}
use Rattle.std.specs.Prelude.{take, zero, suc}
use Rattle.std.specs.Prelude.{Option, Some, None, is_some, if◌then◌else◌}
use Rattle.std.specs.Int.{cast_signed, w8}
use Rattle.std.specs.List.{All, filter, flat_map, range_with_len}
use Rattle.std.specs.Str.{bytes_eq}
use Rattle.std.specs.Ordering.{nat_cmp, int_eq}
use Rattle.std.specs.FinMap.{FinMap, get, contains_key, entries, keys}
use lib.IntN.{ℤ, pos, negsuc}
use Rattle.mc_fields.specs.declared.position.Cell.{Cell}
use Rattle.mc_fields.specs.declared.position.Spot.{Spot}
use Rattle.mc_slots.specs.declared.slot.Slot.{Slot}
use Rattle.mc_slots.specs.declared.slot.Slot.TheVariants as slots
use Rattle.mc_slots.specs.Chest.{chest_size}
use Rattle.mc_column.specs.Sizes.{cells}
use Rattle.mc_column.specs.Cells.{ColumnValue, HasSizes}
use Rattle.mc_column.specs.Sent.{column_mask, column_bytes}
use Rattle.mc_packets.specs.declared.down.Down.{Down}
use Rattle.mc_packets.specs.declared.down.Down.TheVariants.{KeepAlive, Chat, Time, Chunk}
use Rattle.mc_packets.specs.declared.down.Down.TheVariants.{MultiChange, List as PlayerList, Change}
use Rattle.mc_packets.specs.declared.down.Down.TheVariants.{SpawnPlayer, SpawnObject, SpawnMob}
use Rattle.mc_packets.specs.declared.down.Down.TheVariants.{Equipment}
use Rattle.mc_packets.specs.declared.down.Down.TheVariants.{Destroy, Step, Look, StepLook, Teleport}
use Rattle.mc_packets.specs.declared.down.Down.TheVariants.{HeadLook, Meta, OpenWindow, SetSlot}
use Rattle.mc_packets.specs.declared.down.Down.TheVariants.{CloseWindow, WindowItems}
use Rattle.mc_packets.specs.declared.meta.MetaEntry.{MetaEntry}
use Rattle.mc_packets.specs.declared.meta.MetaValue.TheVariants as values
use Rattle.mc_packets.specs.declared.player.Player.{Player}
use Rattle.mc_packets.specs.declared.player.PlayerChange.TheVariants.{Join, Leave}
use Rattle.mc_packets.specs.declared.record.Record.{Record}
use Rattle.mc_land.specs.Places.{Place, x_of, y_of, z_of}
use Rattle.mc_land.specs.Ready.{has_changed}
use Rattle.mc_windows.specs.declared.pack.TheConstants.{LAST_WINDOW}
use Rattle.mc_windows.specs.Pack.{pack_size}
use Rattle.mc_view.specs.declared.forms.Form.{Form}
use Rattle.mc_view.specs.declared.forms.Form.TheVariants as forms
use Rattle.mc_view.specs.declared.forms.Moves.{Moves}
use Rattle.mc_view.specs.Forms.{moves_of}
use Rattle.mc_model.specs.declared.seen.TheConstants.{DESTROYED_MAX}
use Rattle.mc_model.specs.declared.seen.SeenKind.{SeenKind}
use Rattle.mc_model.specs.declared.seen.SeenKind.TheVariants as seen_kinds
use Rattle.mc_model.specs.Sight.{ChestWindow, Seen, Sight}
use Rattle.mc_model.specs.Replica.{is_32_bits}
use Rattle.mc_model.specs.Texts.{chat_json}
use Rattle.mc_model.specs.Ticks.{time_of_day}

-- ---- the beat and the age

-- a number was told last
abbrev pub is_told : Option ℤ → ℤ → Bool
is_told None n = false
is_told (Some m) n = int_eq m n

abbrev pub beat_packets : Option ℤ → Option ℤ → List Down
beat_packets old None = []
beat_packets old (Some beat) = if is_told old beat then [] else KeepAlive beat ∷ []

abbrev pub time_packets : Option ℤ → Option ℤ → List Down
time_packets old None = []
time_packets old (Some age) = if is_told old age then [] else Time age (time_of_day age) ∷ []

abbrev pub beat_point : Sight → Sight → List Down
beat_point p q = beat_packets p.beat q.beat

abbrev pub time_point : Sight → Sight → List Down
time_point p q = time_packets p.age q.age

-- ---- the list of players

abbrev pub Pairs : Type 0
Pairs = FinMap nat_cmp (List ℕ)

abbrev pub is_named : Option (List ℕ) → List ℕ → Bool
is_named None name = false
is_named (Some other) name = bytes_eq other name

-- the pairs of one that another has not, in rising identifiers
abbrev pub missing : Pairs → Pairs → List (ℕ × List ℕ)
missing m n = filter (λ (e : ℕ × List ℕ). not (is_named (get n e.0) e.1)) (entries m)

abbrev pub leaver : ℕ × List ℕ → Player
leaver e = record { uuid = e.0; change = Leave }

-- without properties, game mode 0, ping 0, and without a name to show
abbrev pub joiner : ℕ × List ℕ → Player
joiner e = record { uuid = e.0; change = Join e.1 [] (pos 0) (pos 0) false None }

-- one packet, and none about nobody
abbrev pub about : ℤ → List Player → List Down
about action [] = []
about action (player ∷ players) = PlayerList action (player ∷ players) ∷ []

abbrev pub leavers_point : Sight → Sight → List Down
leavers_point p q = about (pos 4) (map leaver (missing p.pairs q.pairs))

abbrev pub joiners_point : Sight → Sight → List Down
joiners_point p q = about (pos 0) (map joiner (missing q.pairs p.pairs))

-- ---- entities that are seen no more

-- a list in parts of so many, the last of fewer; the first number is at least the list's length
abbrev pub parts_of : ℕ → ℕ → List ℤ → List (List ℤ)
parts_of zero most eids = []
parts_of (suc n) most [] = []
parts_of (suc n) most (eid ∷ eids) =
    take most (eid ∷ eids) ∷ parts_of n most (drop most (eid ∷ eids))

-- one packet, and none about none; a packet holds as many numbers as there can be entities
abbrev pub destroying : List ℤ → List Down
destroying eids = map Destroy (parts_of (length eids) DESTROYED_MAX eids)

-- in rising number
abbrev pub destroys_point : Sight → Sight → List Down
destroys_point p q =
    destroying (filter (λ (eid : ℤ). not (contains_key q.entities eid)) (keys p.entities))

-- ---- columns

-- all of a column, and no section
abbrev pub unload : Place → Down
unload place = Chunk place.0 place.1 true 0 []

abbrev pub load : Place × ColumnValue → Down
load e = Chunk e.0.0 e.0.1 true (column_mask e.1) (column_bytes e.1)

-- the columns that are seen no more, in the order of their places
abbrev pub unloads_point : Sight → Sight → List Down
unloads_point p q =
    map unload (filter (λ (place : Place). not (contains_key q.columns place)) (keys p.columns))

-- the columns that were not seen before, likewise
abbrev pub loads_point : Sight → Sight → List Down
loads_point p q =
    map load
    (filter (λ (e : Place × ColumnValue). not (contains_key p.columns e.0)) (entries q.columns))

-- ---- cells of the columns that stay

-- the cells whose states differ, in rising index
abbrev pub differing : List ℕ → List ℕ → List ℕ
differing old new = filter (has_changed old new) (range_with_len 0 cells)

abbrev pub cell_at : Place → ℕ → Cell
cell_at place i =
    record { x = x_of (place, i); y = pos (y_of (place, i)); z = z_of (place, i) }

-- a cell of a packet about several: 16 times its x in the column, and its z
abbrev pub cell_record : List ℕ → ℕ → Record
cell_record states i = record {
  place = 16 * (i % 16) + i / 16 % 16;
  y = i / 256;
  state = pos (slice_index states i);
}

-- cells of a column with their states: a packet about one, a packet about several, none about none
abbrev pub cell_packets : Place → List ℕ → List ℕ → List Down
cell_packets place states [] = []
cell_packets place states (i ∷ []) =
    Change (cell_at place i) (pos (slice_index states i)) ∷ []
cell_packets place states (i ∷ j ∷ later) =
    MultiChange place.0 place.1 (map (cell_record states) (i ∷ j ∷ later)) ∷ []

-- a column that comes is sent whole
abbrev pub column_changes : Place → Option ColumnValue → ColumnValue → List Down
column_changes place None new = []
column_changes place (Some old) new =
    cell_packets place new.states (differing old.states new.states)

-- column by column, in the order of their places
abbrev pub cells_point : Sight → Sight → List Down
cells_point p q =
    flat_map (λ (e : Place × ColumnValue). column_changes e.0 (get p.columns e.0) e.1)
    (entries q.columns)

-- ---- entities

-- the same id, count and damage and no tag, or both empty
abbrev pub is_same_slot : Slot → Slot → Bool
is_same_slot slots.Empty slots.Empty = true
is_same_slot (slots.Full a) (slots.Full b) =
    int_eq a.id b.id && (int_eq a.count b.count
    && (int_eq a.damage b.damage && (not (is_some a.tag) && not (is_some b.tag))))
is_same_slot slots.Empty (slots.Full b) = false
is_same_slot (slots.Full a) slots.Empty = false

-- what a player holds is worn in slot 0; what lies there is the slot of index 10 of the metadata; a
-- mob has no pile
abbrev pub pile_told : ℤ → SeenKind → Slot → List Down
pile_told eid (seen_kinds.Player uuid) pile = Equipment eid (pos 0) pile ∷ []
pile_told eid seen_kinds.Dropped pile =
    Meta eid (record { index = 10; value = values.Slot pile } ∷ []) ∷ []
pile_told eid seen_kinds.Mob pile = []

-- the id of what is in a hand, as a player's spawn has it: 0 for an empty one
abbrev pub id_in_hand : Slot → ℤ
id_in_hand slots.Empty = pos 0
id_in_hand (slots.Full stack) = stack.id

-- nothing is told of an empty hand
abbrev pub hand_packets : ℤ → ℕ → Slot → List Down
hand_packets eid uuid slots.Empty = []
hand_packets eid uuid (slots.Full stack) =
    pile_told eid (seen_kinds.Player uuid) (slots.Full stack)

-- the metadata of a player and of a mob: its flags, none of which is set
abbrev pub no_flags : List MetaEntry
no_flags = record { index = 0; value = values.Byte (pos 0) } ∷ []

-- a player that comes, with its head and what it holds; a dropped item is an object of kind 2; a mob
-- is one of kind 90, whose head looks as it does, and which has no speed
abbrev pub spawn_as : ℤ → SeenKind → Spot → Slot → List Down
spawn_as eid (seen_kinds.Player uuid) spot pile =
    SpawnPlayer eid uuid spot.x spot.y spot.z spot.yaw spot.pitch (id_in_hand pile) no_flags
    ∷ HeadLook eid spot.yaw ∷ hand_packets eid uuid pile
spawn_as eid seen_kinds.Dropped spot pile =
    SpawnObject eid (pos 2) spot.x spot.y spot.z spot.pitch spot.yaw (pos 0) None
    ∷ pile_told eid seen_kinds.Dropped pile
spawn_as eid seen_kinds.Mob spot pile =
    SpawnMob eid 90 spot.x spot.y spot.z spot.yaw spot.pitch spot.yaw (pos 0) (pos 0) (pos 0)
    no_flags ∷ []

abbrev pub spawn_packets : ℤ → Seen → List Down
spawn_packets eid e = spawn_as eid e.kind e.spot e.pile

-- where it is and looks now
abbrev pub move_packets : ℤ → Spot → Form → List Down
move_packets eid spot forms.Still = []
move_packets eid spot (forms.Step dx dy dz) = Step eid dx dy dz true ∷ []
move_packets eid spot (forms.StepTurn dx dy dz) =
    StepLook eid dx dy dz spot.yaw spot.pitch true ∷ []
move_packets eid spot forms.Turn = Look eid spot.yaw spot.pitch true ∷ []
move_packets eid spot forms.Jump =
    Teleport eid spot.x spot.y spot.z spot.yaw spot.pitch true ∷ []

abbrev pub head_packets : ℤ → Spot → Bool → List Down
head_packets eid spot turns = if turns then HeadLook eid spot.yaw ∷ [] else []

abbrev pub moves_packets : ℤ → Spot → Moves → List Down
moves_packets eid spot moves = move_packets eid spot moves.form ++ head_packets eid spot moves.head

-- what it holds or is now, where that is something else
abbrev pub pile_packets : ℤ → SeenKind → Slot → Slot → List Down
pile_packets eid kind old new = if is_same_slot old new then [] else pile_told eid kind new

abbrev pub entity_packets : ℤ → Option Seen → Seen → List Down
entity_packets eid None new = spawn_packets eid new
entity_packets eid (Some old) new =
    moves_packets eid new.spot (moves_of old.spot new.spot)
    ++ pile_packets eid new.kind old.pile new.pile

-- entity by entity, in rising number
abbrev pub entities_point : Sight → Sight → List Down
entities_point p q =
    flat_map (λ (e : ℤ × Seen). entity_packets e.0 (get p.entities e.0) e.1) (entries q.entities)

-- ---- the window of a chest, and the pack

-- the slots of a window that differ, from a number on
abbrev pub slot_packets : ℤ → ℕ → List Slot → List Slot → List Down
slot_packets window i (old ∷ olds) (new ∷ news) =
    (if is_same_slot old new then [] else SetSlot window (pos i) new ∷ [])
    ++ slot_packets window (i + 1) olds news
slot_packets window i [] news = []
slot_packets window i olds [] = []

-- the window of a chest opens, and all of its slots are told: those of the chest, and behind them
-- those of the pack
abbrev pub opening_packets : ChestWindow → List Slot → List Down
opening_packets new pack =
    OpenWindow new.number (codes "minecraft:chest") (chat_json (codes "Chest")) chest_size None
    ∷ WindowItems new.number (new.slots ++ pack) ∷ []

-- none, or one of another number, was shown
abbrev pub is_new_window : Option ChestWindow → ℕ → Bool
is_new_window None number = true
is_new_window (Some old) number = not (old.number == number)

-- what lay in the chest that was shown
abbrev pub chest_slots : Option ChestWindow → List Slot
chest_slots None = []
chest_slots (Some old) = old.slots

abbrev pub closing_packets : Option ChestWindow → List Down
closing_packets None = []
closing_packets (Some old) = CloseWindow old.number ∷ []

-- A window of another number opens. Else one that is shown no more is closed, and then each slot
-- that differs is told in the window that is shown: that of the chest, by a byte with a sign, or
-- window 0, where the pack begins at slot 9.
abbrev pub window_changes : Option ChestWindow → Option ChestWindow → List Slot → List Slot →
    List Down
window_changes old None olds news = closing_packets old ++ slot_packets (pos 0) 9 olds news
window_changes old (Some new) olds news =
    if is_new_window old new.number then opening_packets new news
    else slot_packets (cast_signed w8 new.number) 0 (chest_slots old ++ olds) (new.slots ++ news)

abbrev pub window_point : Sight → Sight → List Down
window_point p q = window_changes p.window q.window p.pack q.pack

-- ---- the cursor

-- what hangs on it is slot -1 of window -1
abbrev pub cursor_packet : Slot → Down
cursor_packet item = SetSlot (negsuc 0) (negsuc 0) item

-- where that is something else
abbrev pub cursor_packets : Slot → Slot → List Down
cursor_packets old new = if is_same_slot old new then [] else cursor_packet new ∷ []

abbrev pub cursor_point : Sight → Sight → List Down
cursor_point p q = cursor_packets p.cursor q.cursor

-- ---- chat

-- a text is shown as what a player says
abbrev pub chat_packet : List ℕ → Down
chat_packet text = Chat text (pos 0)

-- the texts that are new
abbrev pub chat_point : Sight → Sight → List Down
chat_point p q = map chat_packet (drop (length p.chat) q.chat)

-- ---- all of it

unfoldable pub delta : Sight → Sight → List Down
delta p q =
    flat_map (λ (point : List Down). point)
    (beat_point p q ∷ time_point p q ∷ leavers_point p q ∷ joiners_point p q ∷ destroys_point p q
    ∷ unloads_point p q ∷ loads_point p q ∷ cells_point p q ∷ entities_point p q
    ∷ window_point p q ∷ cursor_point p q ∷ chat_point p q ∷ [])

-- ---- what the packets rest on

-- the pile of an entity of a kind: a mob has none
abbrev pub IsPileOf : SeenKind → Slot → Type 0
IsPileOf seen_kinds.Mob pile = pile ≡ slots.Empty
IsPileOf other pile = Unit {0}

-- An entity whose head looks as it does, and whose place is within 32 bits.
pub record IsSeen (e : Seen) : Type 0 where
  pub head : e.head ≡ e.spot.yaw
  pub pile : IsPileOf e.kind e.pile
  pub x : is_32_bits e.spot.x ≡ true
  pub y : is_32_bits e.spot.y ≡ true
  pub z : is_32_bits e.spot.z ≡ true

-- The window of a chest: its number is from 1 to 100, and it has as many slots as a chest.
pub record IsChestWindow (w : ChestWindow) : Type 0 where
  pub low : 1 ≤ w.number
  pub high : w.number ≤ LAST_WINDOW
  pub size : length w.slots ≡ chest_size

-- A sight that packets can tell: columns of their size with states of 16 bits, such entities, such
-- a window, and a pack of its size.
pub record IsTold (p : Sight) : Type 0 where
  pub sizes : (place : Place) (column : ColumnValue) → get p.columns place ≡ Some column →
      HasSizes column
  pub states : (place : Place) (column : ColumnValue) → get p.columns place ≡ Some column →
      All (λ state. state < 65536) column.states
  pub entities : (eid : ℤ) (e : Seen) → get p.entities eid ≡ Some e → IsSeen e
  pub window : (w : ChestWindow) → p.window ≡ Some w → IsChestWindow w
  pub pack : length p.pack ≡ pack_size

-- Two sights that follow one another: no packet carries the biomes of a column that stays or says
-- that an entity that stays is another, a beat and an age are never told no more, and what was said
-- stays.
pub record Follows (p q : Sight) : Type 0 where
  pub old : IsTold p
  pub new : IsTold q
  pub biomes : (place : Place) (old new : ColumnValue) → get p.columns place ≡ Some old →
      get q.columns place ≡ Some new → old.biomes ≡ new.biomes
  pub kinds : (eid : ℤ) (old new : Seen) → get p.entities eid ≡ Some old →
      get q.entities eid ≡ Some new → old.kind ≡ new.kind
  pub beat : is_some q.beat ≡ true
  pub age : is_some q.age ≡ true
  pub chat : (more : List (List ℕ)) × (q.chat ≡ p.chat ++ more)
