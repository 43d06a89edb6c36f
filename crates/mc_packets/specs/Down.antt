-- All packets to a client in play, of the page 'Protocol' of wiki.vg for protocol 47: the row of
-- each id, with the format of its fields.
use Rattle.std.specs.Prelude.{ℕ, ◌==◌, ◌||◌, ◌&&◌, Bool, List, nat_le, refl}
use lib.IntN.{ℤ, pos}
use Rattle.mc_bytes.specs.declared.fault.Kind.TheVariants.{BadNumber}
use Rattle.mc_bytes.specs.Format.{Format, Anything}
use Rattle.mc_bytes.specs.Combine.{◌then◌, tested}
use Rattle.mc_bytes.specs.Optional.{when}
use Rattle.mc_bytes.specs.Rest.{rest}
use Rattle.mc_fields.specs.Flat.{tuple2, tuple3, tuple4, tuple5, tuple6, tuple7}
use Rattle.mc_fields.specs.VarintFormat.{var_int}
use Rattle.mc_fields.specs.VarintFormat.{varint}
use Rattle.mc_fields.specs.Integers.{byte, ubyte, short, ushort, int, long}
use Rattle.mc_fields.specs.Integers.{float, double, uuid, boolean}
use Rattle.mc_fields.specs.Position.{position}
use Rattle.mc_fields.specs.TextFormat.{string}
use Rattle.mc_fields.specs.Counted.{counted, listed, short_count, sized}
use Rattle.mc_fields.specs.Row.{Row, packet, Entry, of_row, Spells, Fits, spelling, append}
use Rattle.mc_fields.specs.Row.{Rows, is_one_of, size_of}
use Rattle.mc_fields.specs.Row.Rows.{row, family, no_more}
use Rattle.mc_slots.specs.SlotFormat.{slot}
use Rattle.mc_packets.specs.declared.down.Down.{Down}
use Rattle.mc_packets.specs.declared.down.Down.TheVariants.{KeepAlive, JoinGame, Chat, Time}
use Rattle.mc_packets.specs.declared.down.Down.TheVariants.{Equipment}
use Rattle.mc_packets.specs.declared.down.Down.TheVariants.{SpawnPosition, Health, Respawn}
use Rattle.mc_packets.specs.declared.down.Down.TheVariants.{PositionLook, Held, Animation}
use Rattle.mc_packets.specs.declared.down.Down.TheVariants.{SpawnPlayer}
use Rattle.mc_packets.specs.declared.down.Down.TheVariants.{Collect, SpawnObject, SpawnMob}
use Rattle.mc_packets.specs.declared.down.Down.TheVariants.{Velocity}
use Rattle.mc_packets.specs.declared.down.Down.TheVariants.{Destroy, Entity, Step, Look, StepLook}
use Rattle.mc_packets.specs.declared.down.Down.TheVariants.{Teleport, HeadLook, Status, Attach}
use Rattle.mc_packets.specs.declared.down.Down.TheVariants.{Meta}
use Rattle.mc_packets.specs.declared.down.Down.TheVariants.{Experience, Chunk, MultiChange, Change}
use Rattle.mc_packets.specs.declared.down.Down.TheVariants.{GameState, OpenWindow, CloseWindow}
use Rattle.mc_packets.specs.declared.down.Down.TheVariants.{SetSlot, WindowItems, WindowProperty}
use Rattle.mc_packets.specs.declared.down.Down.TheVariants.{Confirm, SignEditor, List as PlayerList}
use Rattle.mc_packets.specs.declared.down.Down.TheVariants.{Abilities, TabComplete, Plugin}
use Rattle.mc_packets.specs.declared.down.Down.TheVariants.{Disconnect}
use Rattle.mc_packets.specs.declared.down.Down.TheVariants.{Difficulty, Raw}
use Rattle.mc_packets.specs.Fields.{angle, chat_text, speed, is_positive}
use Rattle.mc_packets.specs.Fields.{cell_change, is_horse}
use Rattle.mc_packets.specs.Metadata.{metadata}
use Rattle.mc_packets.specs.PlayerChange.{is_action, player}

-- 00 KeepAlive
abbrev pub keep_alive : Row Down
keep_alive = packet 0x00 var_int (λ number. KeepAlive number)

-- 01 JoinGame
abbrev pub join_game : Row Down
join_game =
    packet 0x01 (tuple7 int ubyte byte ubyte ubyte string boolean)
    (λ (eid, mode, dimension, hardness, most, level, reduced).
    JoinGame eid mode dimension hardness most level reduced)

-- 02 Chat
abbrev pub chat : Row Down
chat = packet 0x02 (tuple2 chat_text byte) (λ (message, place). Chat message place)

-- 03 Time
abbrev pub time : Row Down
time = packet 0x03 (tuple2 long long) (λ (age, daytime). Time age daytime)

-- 04 Equipment
abbrev pub equipment : Row Down
equipment = packet 0x04 (tuple3 var_int short slot) (λ (eid, worn, item). Equipment eid worn item)

-- 05 SpawnPosition
abbrev pub spawn_position : Row Down
spawn_position = packet 0x05 position (λ cell. SpawnPosition cell)

-- 06 Health
abbrev pub health : Row Down
health =
    packet 0x06 (tuple3 float var_int float)
    (λ (points, food, saturation). Health points food saturation)

-- 07 Respawn
abbrev pub respawn : Row Down
respawn =
    packet 0x07 (tuple4 int ubyte ubyte string)
    (λ (dimension, hardness, mode, level). Respawn dimension hardness mode level)

-- 08 PositionLook
abbrev pub position_look : Row Down
position_look =
    packet 0x08 (tuple6 double double double float float byte)
    (λ (x, y, z, yaw, pitch, flags). PositionLook x y z yaw pitch flags)

-- 09 Held
abbrev pub held : Row Down
held = packet 0x09 byte (λ index. Held index)

-- 0B Animation
abbrev pub animation : Row Down
animation = packet 0x0B (tuple2 var_int ubyte) (λ (eid, motion). Animation eid motion)

-- x, y and z in 1/32 blocks
abbrev pub point : Format Anything (ℤ × ℤ × ℤ)
point = tuple3 int int int

-- 0C SpawnPlayer
abbrev pub spawn_player : Row Down
spawn_player =
    packet 0x0C (tuple6 var_int uuid point (tuple2 angle angle) short metadata)
    (λ (eid, who, (x, y, z), (yaw, pitch), item, metas).
    SpawnPlayer eid who x y z yaw pitch item metas)

-- 0D Collect
abbrev pub collect : Row Down
collect = packet 0x0D (tuple2 var_int var_int) (λ (item, collector). Collect item collector)

-- what stands before the speed of an object
abbrev pub object_head : Format Anything (ℤ × ℤ × (ℤ × ℤ × ℤ) × (ℕ × ℕ) × ℤ)
object_head = tuple5 var_int byte point (tuple2 angle angle) int

-- 0E SpawnObject: its speed is there where the number before it is above 0 (a rule of this project)
abbrev pub spawn_object : Row Down
spawn_object =
    packet 0x0E (object_head then λ (eid, kind, at, turns, extra). when (is_positive extra) speed)
    (λ ((eid, kind, (x, y, z), (pitch, yaw), extra), motion).
    SpawnObject eid kind x y z pitch yaw extra motion)

-- 0F SpawnMob
abbrev pub spawn_mob : Row Down
spawn_mob =
    packet 0x0F
    (tuple6 var_int ubyte point (tuple3 angle angle angle) (tuple3 short short short) metadata)
    (λ (eid, kind, (x, y, z), (yaw, pitch, head), (dx, dy, dz), metas).
    SpawnMob eid kind x y z yaw pitch head dx dy dz metas)

-- 12 Velocity
abbrev pub velocity : Row Down
velocity =
    packet 0x12 (tuple4 var_int short short short)
    (λ (eid, dx, dy, dz). Velocity eid dx dy dz)

-- 13 Destroy
abbrev pub destroy : Row Down
destroy = packet 0x13 (counted var_int) (λ eids. Destroy eids)

-- 14 Entity
abbrev pub entity : Row Down
entity = packet 0x14 var_int (λ eid. Entity eid)

-- 15 Step
abbrev pub step : Row Down
step =
    packet 0x15 (tuple5 var_int byte byte byte boolean)
    (λ (eid, dx, dy, dz, on_ground). Step eid dx dy dz on_ground)

-- 16 Look
abbrev pub look : Row Down
look =
    packet 0x16 (tuple4 var_int angle angle boolean)
    (λ (eid, yaw, pitch, on_ground). Look eid yaw pitch on_ground)

-- 17 StepLook
abbrev pub step_look : Row Down
step_look =
    packet 0x17 (tuple7 var_int byte byte byte angle angle boolean)
    (λ (eid, dx, dy, dz, yaw, pitch, on_ground). StepLook eid dx dy dz yaw pitch on_ground)

-- 18 Teleport
abbrev pub teleport : Row Down
teleport =
    packet 0x18 (tuple7 var_int int int int angle angle boolean)
    (λ (eid, x, y, z, yaw, pitch, on_ground). Teleport eid x y z yaw pitch on_ground)

-- 19 HeadLook
abbrev pub head_look : Row Down
head_look = packet 0x19 (tuple2 var_int angle) (λ (eid, head). HeadLook eid head)

-- 1A Status
abbrev pub status : Row Down
status = packet 0x1A (tuple2 int byte) (λ (eid, event). Status eid event)

-- 1B Attach
abbrev pub attach : Row Down
attach =
    packet 0x1B (tuple3 int int boolean)
    (λ (eid, vehicle, is_leash). Attach eid vehicle is_leash)

-- 1C Meta
abbrev pub meta : Row Down
meta = packet 0x1C (tuple2 var_int metadata) (λ (eid, metas). Meta eid metas)

-- 1F Experience
abbrev pub experience : Row Down
experience =
    packet 0x1F (tuple3 float var_int var_int)
    (λ (bar, level, total). Experience bar level total)

-- 21 Chunk
abbrev pub chunk : Row Down
chunk =
    packet 0x21 (tuple5 int int boolean ushort sized)
    (λ (cx, cz, ground_up, mask, body). Chunk cx cz ground_up mask body)

-- 22 MultiChange
abbrev pub multi_change : Row Down
multi_change =
    packet 0x22 (tuple3 int int (counted cell_change))
    (λ (cx, cz, records). MultiChange cx cz records)

-- 23 Change
abbrev pub change : Row Down
change = packet 0x23 (tuple2 position var_int) (λ (cell, state). Change cell state)

-- 2B GameState
abbrev pub game_state : Row Down
game_state = packet 0x2B (tuple2 ubyte float) (λ (reason, value). GameState reason value)

-- what stands before the entity of a window
abbrev pub window_head : Format Anything (ℕ × List ℕ × List ℕ × ℕ)
window_head = tuple4 ubyte string chat_text ubyte

-- 2D OpenWindow: the entity is there where the kind is that of a horse
abbrev pub open_window : Row Down
open_window =
    packet 0x2D (window_head then λ (window, kind, title, slots). when (is_horse kind) int)
    (λ ((window, kind, title, slots), horse). OpenWindow window kind title slots horse)

-- 2E CloseWindow
abbrev pub close_window : Row Down
close_window = packet 0x2E ubyte (λ window. CloseWindow window)

-- 2F SetSlot
abbrev pub set_slot : Row Down
set_slot = packet 0x2F (tuple3 byte short slot) (λ (window, index, item). SetSlot window index item)

-- 30 WindowItems
abbrev pub window_items : Row Down
window_items =
    packet 0x30 (tuple2 ubyte (listed short_count slot))
    (λ (window, items). WindowItems window items)

-- 31 WindowProperty
abbrev pub window_property : Row Down
window_property =
    packet 0x31 (tuple3 ubyte short short)
    (λ (window, property, value). WindowProperty window property value)

-- 32 Confirm
abbrev pub confirm : Row Down
confirm =
    packet 0x32 (tuple3 byte short boolean)
    (λ (window, number, accepted). Confirm window number accepted)

-- 36 SignEditor
abbrev pub sign_editor : Row Down
sign_editor = packet 0x36 position (λ cell. SignEditor cell)

-- 38 List
abbrev pub player_list : Row Down
player_list =
    packet 0x38 (tested varint is_action BadNumber then λ action. counted (player action))
    (λ (action, changes). PlayerList action changes)

-- 39 Abilities
abbrev pub abilities : Row Down
abilities =
    packet 0x39 (tuple3 byte float float)
    (λ (flags, flying, walking). Abilities flags flying walking)

-- 3A TabComplete
abbrev pub tab_complete : Row Down
tab_complete = packet 0x3A (counted string) (λ matches_. TabComplete matches_)

-- 3F Plugin
abbrev pub plugin : Row Down
plugin = packet 0x3F (tuple2 string rest) (λ (channel, content). Plugin channel content)

-- 40 Disconnect
abbrev pub disconnect : Row Down
disconnect = packet 0x40 chat_text (λ reason. Disconnect reason)

-- 41 Difficulty
abbrev pub difficulty : Row Down
difficulty = packet 0x41 ubyte (λ level. Difficulty level)

-- The ids whose fields are not taken apart (a rule of this project). With the rows above, and 46,
-- which names no packet, these are all ids from 00 to 49.
abbrev pub within : ℕ → ℕ → ℕ → Bool
within low high id = nat_le low id && nat_le id high

abbrev pub is_raw : ℕ → Bool
is_raw id =
    id == 0x0A || id == 0x10 || id == 0x11 || id == 0x1D || id == 0x1E || id == 0x20
    || within 0x24 0x2A id || id == 0x2C || within 0x33 0x35 id || id == 0x37
    || within 0x3B 0x3E id || within 0x42 0x45 id || within 0x47 0x49 id

-- such an id and all bytes after it
abbrev pub raw : ℤ → Row Down
raw id =
    packet (size_of id) (tested rest (λ _. is_one_of is_raw id) BadNumber)
    (λ bytes. Raw id bytes)

-- a packet's row and its fields
abbrev pub entry_of : Down → Entry Down
entry_of (KeepAlive number) = of_row keep_alive number
entry_of (JoinGame eid mode dimension hardness most level reduced) =
    of_row join_game (eid, mode, dimension, hardness, most, level, reduced)
entry_of (Chat message place) = of_row chat (message, place)
entry_of (Time age daytime) = of_row time (age, daytime)
entry_of (Equipment eid worn item) = of_row equipment (eid, worn, item)
entry_of (SpawnPosition cell) = of_row spawn_position cell
entry_of (Health points food saturation) = of_row health (points, food, saturation)
entry_of (Respawn dimension hardness mode level) = of_row respawn (dimension, hardness, mode, level)
entry_of (PositionLook x y z yaw pitch flags) = of_row position_look (x, y, z, yaw, pitch, flags)
entry_of (Held index) = of_row held index
entry_of (Animation eid motion) = of_row animation (eid, motion)
entry_of (SpawnPlayer eid who x y z yaw pitch item metas) =
    of_row spawn_player (eid, who, (x, y, z), (yaw, pitch), item, metas)
entry_of (Collect item collector) = of_row collect (item, collector)
entry_of (SpawnObject eid kind x y z pitch yaw extra motion) =
    of_row spawn_object ((eid, kind, (x, y, z), (pitch, yaw), extra), motion)
entry_of (SpawnMob eid kind x y z yaw pitch head dx dy dz metas) =
    of_row spawn_mob (eid, kind, (x, y, z), (yaw, pitch, head), (dx, dy, dz), metas)
entry_of (Velocity eid dx dy dz) = of_row velocity (eid, dx, dy, dz)
entry_of (Destroy eids) = of_row destroy eids
entry_of (Entity eid) = of_row entity eid
entry_of (Step eid dx dy dz on_ground) = of_row step (eid, dx, dy, dz, on_ground)
entry_of (Look eid yaw pitch on_ground) = of_row look (eid, yaw, pitch, on_ground)
entry_of (StepLook eid dx dy dz yaw pitch on_ground) =
    of_row step_look (eid, dx, dy, dz, yaw, pitch, on_ground)
entry_of (Teleport eid x y z yaw pitch on_ground) =
    of_row teleport (eid, x, y, z, yaw, pitch, on_ground)
entry_of (HeadLook eid head) = of_row head_look (eid, head)
entry_of (Status eid event) = of_row status (eid, event)
entry_of (Attach eid vehicle is_leash) = of_row attach (eid, vehicle, is_leash)
entry_of (Meta eid metas) = of_row meta (eid, metas)
entry_of (Experience bar level total) = of_row experience (bar, level, total)
entry_of (Chunk cx cz ground_up mask body) = of_row chunk (cx, cz, ground_up, mask, body)
entry_of (MultiChange cx cz records) = of_row multi_change (cx, cz, records)
entry_of (Change cell state) = of_row change (cell, state)
entry_of (GameState reason value) = of_row game_state (reason, value)
entry_of (OpenWindow window kind title slots horse) =
    of_row open_window ((window, kind, title, slots), horse)
entry_of (CloseWindow window) = of_row close_window window
entry_of (SetSlot window index item) = of_row set_slot (window, index, item)
entry_of (WindowItems window items) = of_row window_items (window, items)
entry_of (WindowProperty window property value) = of_row window_property (window, property, value)
entry_of (Confirm window number accepted) = of_row confirm (window, number, accepted)
entry_of (SignEditor cell) = of_row sign_editor cell
entry_of (PlayerList action changes) = of_row player_list (action, changes)
entry_of (Abilities flags flying walking) = of_row abilities (flags, flying, walking)
entry_of (TabComplete matches_) = of_row tab_complete matches_
entry_of (Plugin channel content) = of_row plugin (channel, content)
entry_of (Disconnect reason) = of_row disconnect reason
entry_of (Difficulty level) = of_row difficulty level
entry_of (Raw id bytes) = of_row (raw id) bytes

-- The rows of ids that have one of their own, in groups of eight, so that a search looks into one
-- at a time; each table has the rows from an id on.
unfoldable pub rows_from_3A : Rows Down entry_of
rows_from_3A =
    row tab_complete (λ _ _ s. s) (
    row plugin (λ _ _ s. s) (
    row disconnect (λ _ _ s. s) (
    row difficulty (λ _ _ s. s) (
    no_more))))

unfoldable pub rows_from_2E : Rows Down entry_of
rows_from_2E =
    row close_window (λ _ _ s. s) (
    row set_slot (λ _ _ s. s) (
    row window_items (λ _ _ s. s) (
    row window_property (λ _ _ s. s) (
    row confirm (λ _ _ s. s) (
    row sign_editor (λ _ _ s. s) (
    row player_list (λ _ _ s. s) (
    row abilities (λ _ _ s. s) (
    rows_from_3A))))))))

unfoldable pub rows_from_1B : Rows Down entry_of
rows_from_1B =
    row attach (λ _ _ s. s) (
    row meta (λ _ _ s. s) (
    row experience (λ _ _ s. s) (
    row chunk (λ _ _ s. s) (
    row multi_change (λ _ _ s. s) (
    row change (λ _ _ s. s) (
    row game_state (λ _ _ s. s) (
    row open_window (λ _ _ s. s) (
    rows_from_2E))))))))

unfoldable pub rows_from_13 : Rows Down entry_of
rows_from_13 =
    row destroy (λ _ _ s. s) (
    row entity (λ _ _ s. s) (
    row step (λ _ _ s. s) (
    row look (λ _ _ s. s) (
    row step_look (λ _ _ s. s) (
    row teleport (λ _ _ s. s) (
    row head_look (λ _ _ s. s) (
    row status (λ _ _ s. s) (
    rows_from_1B))))))))

unfoldable pub rows_from_08 : Rows Down entry_of
rows_from_08 =
    row position_look (λ _ _ s. s) (
    row held (λ _ _ s. s) (
    row animation (λ _ _ s. s) (
    row spawn_player (λ _ _ s. s) (
    row collect (λ _ _ s. s) (
    row spawn_object (λ _ _ s. s) (
    row spawn_mob (λ _ _ s. s) (
    row velocity (λ _ _ s. s) (
    rows_from_13))))))))

unfoldable pub rows_from_00 : Rows Down entry_of
rows_from_00 =
    row keep_alive (λ _ _ s. s) (
    row join_game (λ _ _ s. s) (
    row chat (λ _ _ s. s) (
    row time (λ _ _ s. s) (
    row equipment (λ _ _ s. s) (
    row spawn_position (λ _ _ s. s) (
    row health (λ _ _ s. s) (
    row respawn (λ _ _ s. s) (
    rows_from_08))))))))

-- the row of each id
unfoldable pub rows : Rows Down entry_of
rows = family is_raw (λ id. raw (pos id)) (λ id. refl) (λ _ _ _ s. s) rows_from_00

-- the bytes spell the packet
abbrev pub SpellsDown : Down → List ℕ → Type 0
SpellsDown (KeepAlive number) = Spells (entry_of (KeepAlive number))
SpellsDown other = Spells (entry_of other)

-- the packet has a spelling
abbrev pub FitsDown : Down → Type 0
FitsDown (KeepAlive number) = Fits (entry_of (KeepAlive number))
FitsDown other = Fits (entry_of other)

-- the one that is written, with VarInts the shortest
abbrev pub spelling_of : Down → List ℕ
spelling_of (KeepAlive number) = spelling (entry_of (KeepAlive number))
spelling_of other = spelling (entry_of other)

-- the bytes with it at their end
abbrev pub append_of : Down → List ℕ → List ℕ
append_of (KeepAlive number) = append (entry_of (KeepAlive number))
append_of other = append (entry_of other)
