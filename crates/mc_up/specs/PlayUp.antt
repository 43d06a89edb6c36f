-- The packets of a client that plays, of the page 'Protocol' of wiki.vg for protocol 47. Numbers
-- with a fraction are kept as their patterns.
use Rattle.std.specs.Prelude.{ℕ, ◌==◌, Bool, false, List, Option, refl}
use lib.IntN.{ℤ, pos, negsuc}
use Rattle.mc_bytes.specs.Format.{Format}
use Rattle.mc_bytes.specs.Combine.{◌then◌, via, last, none}
use Rattle.mc_bytes.specs.Optional.{when}
use Rattle.mc_bytes.specs.Rest.{rest}
use Rattle.mc_fields.specs.VarintFormat.{var_int}
use Rattle.mc_fields.specs.TextFormat.{text, string}
use Rattle.mc_fields.specs.Integers.{byte, ubyte, short, float, double, uuid, boolean}
use Rattle.mc_fields.specs.declared.position.Cell.{Cell}
use Rattle.mc_fields.specs.Position.{position as cell}
use Rattle.mc_fields.specs.Flat.{tuple2, tuple3, tuple4, tuple5, tuple6}
use Rattle.mc_fields.specs.Row.{Row, packet, Entry, of_row, Spells, Fits, spelling, append, Rows}
use Rattle.mc_fields.specs.Row.Rows.{row, no_more}
use Rattle.mc_slots.specs.SlotFormat.{slot}
use Rattle.mc_up.specs.declared.play_up.parts.Hit.{Hit}
use Rattle.mc_up.specs.declared.play_up.PlayUp.{PlayUp}
use Rattle.mc_up.specs.declared.play_up.PlayUp.TheVariants.{KeepAlive, Chat, UseEntity, Player}
use Rattle.mc_up.specs.declared.play_up.PlayUp.TheVariants.{Position, Look, PositionLook, Digging}
use Rattle.mc_up.specs.declared.play_up.PlayUp.TheVariants.{Placement, Held, Animation}
use Rattle.mc_up.specs.declared.play_up.PlayUp.TheVariants.{EntityAction}
use Rattle.mc_up.specs.declared.play_up.PlayUp.TheVariants.{Steer, CloseWindow, ClickWindow}
use Rattle.mc_up.specs.declared.play_up.PlayUp.TheVariants.{Confirm}
use Rattle.mc_up.specs.declared.play_up.PlayUp.TheVariants.{Creative, Enchant, Sign, Abilities}
use Rattle.mc_up.specs.declared.play_up.PlayUp.TheVariants.{TabComplete, Settings, ClientStatus}
use Rattle.mc_up.specs.declared.play_up.PlayUp.TheVariants.{Plugin, Spectate, ResourcePack}

-- ---- parts of packets

-- where an entity was hit
abbrev pub hit_of : ℕ × (ℕ × ℕ) → Hit
hit_of (x, (y, z)) = record { x = x; y = y; z = z }

abbrev pub hit_numbers : Hit → ℕ × (ℕ × ℕ)
hit_numbers hit = (hit.x, (hit.y, hit.z))

abbrev pub AnyHit : Hit → Type 0
AnyHit hit = Unit {0}

abbrev pub hit : {Rest : List ℕ → Type 0} → Format Rest Hit
hit {Rest} =
    via (float then λ _. float then λ _. float {Rest = Rest}) AnyHit hit_of hit_numbers
    (record { made = λ numbers fits. tt; again = λ numbers fits. refl; same = λ hit fits. refl })

-- 2 is the one kind of use that says where
abbrev pub has_hit : ℤ → Bool
has_hit (pos kind) = kind == 2
has_hit (negsuc kind) = false

-- how an entity is used, and where it was hit
abbrev pub used : {Rest : List ℕ → Type 0} → Format Rest (ℤ × Option Hit)
used {Rest} = var_int then λ kind. when (has_hit kind) (hit {Rest = Rest})

-- whether the player looks at a block, and which
abbrev pub looked : {Rest : List ℕ → Type 0} → Format Rest (Bool × Option Cell)
looked {Rest} = boolean then λ looks. when looks (cell {Rest = Rest})

-- ---- the rows

-- 00 KeepAlive
abbrev pub keep_alive : Row PlayUp
keep_alive = packet 0 (last var_int) (λ number. KeepAlive number)

-- 01 Chat
abbrev pub chat : Row PlayUp
chat = packet 1 (last (text 100)) (λ said. Chat said)

-- 02 UseEntity
abbrev pub use_entity : Row PlayUp
use_entity =
    packet 2 (last (tuple2 var_int used))
    (λ (target, (kind, place)). UseEntity target kind place)

-- 03 Player
abbrev pub player : Row PlayUp
player = packet 3 (last boolean) (λ on_ground. Player on_ground)

-- 04 Position
abbrev pub position : Row PlayUp
position =
    packet 4 (last (tuple4 double double double boolean))
    (λ (x, y, z, on_ground). Position x y z on_ground)

-- 05 Look
abbrev pub look : Row PlayUp
look =
    packet 5 (last (tuple3 float float boolean))
    (λ (yaw, pitch, on_ground). Look yaw pitch on_ground)

-- 06 PositionLook
abbrev pub position_look : Row PlayUp
position_look =
    packet 6 (last (tuple6 double double double float float boolean))
    (λ (x, y, z, yaw, pitch, on_ground). PositionLook x y z yaw pitch on_ground)

-- 07 Digging
abbrev pub digging : Row PlayUp
digging =
    packet 7 (last (tuple3 byte cell byte))
    (λ (status, place, face). Digging status place face)

-- 08 Placement
abbrev pub placement : Row PlayUp
placement =
    packet 8 (last (tuple6 cell byte slot byte byte byte))
    (λ (place, face, item, x, y, z). Placement place face item x y z)

-- 09 Held
abbrev pub held : Row PlayUp
held = packet 9 (last short) (λ index. Held index)

-- 0A Animation
abbrev pub animation : Row PlayUp
animation = packet 10 none (λ _. Animation)

-- 0B EntityAction
abbrev pub entity_action : Row PlayUp
entity_action =
    packet 11 (last (tuple3 var_int var_int var_int))
    (λ (entity, action, boost). EntityAction entity action boost)

-- 0C Steer
abbrev pub steer : Row PlayUp
steer =
    packet 12 (last (tuple3 float float ubyte))
    (λ (sideways, forward, flags). Steer sideways forward flags)

-- 0D CloseWindow
abbrev pub close_window : Row PlayUp
close_window = packet 13 (last ubyte) (λ window. CloseWindow window)

-- 0E ClickWindow
abbrev pub click_window : Row PlayUp
click_window =
    packet 14 (last (tuple6 ubyte short byte short byte slot))
    (λ (window, index, button, number, mode, item).
    ClickWindow window index button number mode item)

-- 0F Confirm
abbrev pub confirm : Row PlayUp
confirm =
    packet 15 (last (tuple3 byte short boolean))
    (λ (window, number, accepted). Confirm window number accepted)

-- 10 Creative
abbrev pub creative : Row PlayUp
creative = packet 16 (last (tuple2 short slot)) (λ (index, item). Creative index item)

-- 11 Enchant
abbrev pub enchant : Row PlayUp
enchant = packet 17 (last (tuple2 byte byte)) (λ (window, enchantment). Enchant window enchantment)

-- 12 Sign
abbrev pub sign : Row PlayUp
sign =
    packet 18 (last (tuple5 cell string string string string))
    (λ (place, first, second, third, fourth). Sign place first second third fourth)

-- 13 Abilities
abbrev pub abilities : Row PlayUp
abilities =
    packet 19 (last (tuple3 byte float float))
    (λ (flags, flying, walking). Abilities flags flying walking)

-- 14 TabComplete
abbrev pub tab_complete : Row PlayUp
tab_complete =
    packet 20 (last (tuple2 string looked))
    (λ (typed, (looks, place)). TabComplete typed looks place)

-- 15 Settings
abbrev pub settings : Row PlayUp
settings =
    packet 21 (last (tuple5 string byte byte boolean ubyte))
    (λ (locale, view, chat_mode, colours, skin). Settings locale view chat_mode colours skin)

-- 16 ClientStatus
abbrev pub client_status : Row PlayUp
client_status = packet 22 (last var_int) (λ action. ClientStatus action)

-- 17 Plugin
abbrev pub plugin : Row PlayUp
plugin = packet 23 (string then λ _. rest) (λ (channel, bytes). Plugin channel bytes)

-- 18 Spectate
abbrev pub spectate : Row PlayUp
spectate = packet 24 (last uuid) (λ player. Spectate player)

-- 19 ResourcePack
abbrev pub resource_pack : Row PlayUp
resource_pack =
    packet 25 (last (tuple2 string var_int))
    (λ (hash, outcome). ResourcePack hash outcome)

-- ---- the enum

-- a packet's row and its fields
abbrev pub entry_of : PlayUp → Entry PlayUp
entry_of (KeepAlive number) = of_row keep_alive number
entry_of (Chat said) = of_row chat said
entry_of (UseEntity target kind place) = of_row use_entity (target, (kind, place))
entry_of (Player on_ground) = of_row player on_ground
entry_of (Position x y z on_ground) = of_row position (x, y, z, on_ground)
entry_of (Look yaw pitch on_ground) = of_row look (yaw, pitch, on_ground)
entry_of (PositionLook x y z yaw pitch on_ground) =
    of_row position_look (x, y, z, yaw, pitch, on_ground)
entry_of (Digging status place face) = of_row digging (status, place, face)
entry_of (Placement place face item x y z) = of_row placement (place, face, item, x, y, z)
entry_of (Held index) = of_row held index
entry_of Animation = of_row animation tt
entry_of (EntityAction entity action boost) = of_row entity_action (entity, action, boost)
entry_of (Steer sideways forward flags) = of_row steer (sideways, forward, flags)
entry_of (CloseWindow window) = of_row close_window window
entry_of (ClickWindow window index button number mode item) =
    of_row click_window (window, index, button, number, mode, item)
entry_of (Confirm window number accepted) = of_row confirm (window, number, accepted)
entry_of (Creative index item) = of_row creative (index, item)
entry_of (Enchant window enchantment) = of_row enchant (window, enchantment)
entry_of (Sign place first second third fourth) =
    of_row sign (place, first, second, third, fourth)
entry_of (Abilities flags flying walking) = of_row abilities (flags, flying, walking)
entry_of (TabComplete typed looks place) = of_row tab_complete (typed, (looks, place))
entry_of (Settings locale view chat_mode colours skin) =
    of_row settings (locale, view, chat_mode, colours, skin)
entry_of (ClientStatus action) = of_row client_status action
entry_of (Plugin channel bytes) = of_row plugin (channel, bytes)
entry_of (Spectate player) = of_row spectate player
entry_of (ResourcePack hash outcome) = of_row resource_pack (hash, outcome)

-- the rows from an id on, in groups of eight, each of which one function of the code reads
unfoldable pub rows_18 : Rows PlayUp entry_of
rows_18 =
    row spectate (λ _ _ s. s) (
    row resource_pack (λ _ _ s. s) (
    no_more))

unfoldable pub rows_10 : Rows PlayUp entry_of
rows_10 =
    row creative (λ _ _ s. s) (
    row enchant (λ _ _ s. s) (
    row sign (λ _ _ s. s) (
    row abilities (λ _ _ s. s) (
    row tab_complete (λ _ _ s. s) (
    row settings (λ _ _ s. s) (
    row client_status (λ _ _ s. s) (
    row plugin (λ _ _ s. s) (
    rows_18))))))))

unfoldable pub rows_08 : Rows PlayUp entry_of
rows_08 =
    row placement (λ _ _ s. s) (
    row held (λ _ _ s. s) (
    row animation (λ _ _ s. s) (
    row entity_action (λ _ _ s. s) (
    row steer (λ _ _ s. s) (
    row close_window (λ _ _ s. s) (
    row click_window (λ _ _ s. s) (
    row confirm (λ _ _ s. s) (
    rows_10))))))))

-- the row of each id
unfoldable pub rows : Rows PlayUp entry_of
rows =
    row keep_alive (λ _ _ s. s) (
    row chat (λ _ _ s. s) (
    row use_entity (λ _ _ s. s) (
    row player (λ _ _ s. s) (
    row position (λ _ _ s. s) (
    row look (λ _ _ s. s) (
    row position_look (λ _ _ s. s) (
    row digging (λ _ _ s. s) (
    rows_08))))))))

-- these bytes spell the packet; it has a spelling; the one that is written; the bytes with
-- that at their end
abbrev pub SpellsPlayUp : PlayUp → List ℕ → Type 0
SpellsPlayUp (KeepAlive number) = Spells (entry_of (KeepAlive number))
SpellsPlayUp other = Spells (entry_of other)

abbrev pub FitsPlayUp : PlayUp → Type 0
FitsPlayUp (KeepAlive number) = Fits (entry_of (KeepAlive number))
FitsPlayUp other = Fits (entry_of other)

abbrev pub spelling_of : PlayUp → List ℕ
spelling_of (KeepAlive number) = spelling (entry_of (KeepAlive number))
spelling_of other = spelling (entry_of other)

abbrev pub append_of : PlayUp → List ℕ → List ℕ
append_of (KeepAlive number) = append (entry_of (KeepAlive number))
append_of other = append (entry_of other)
