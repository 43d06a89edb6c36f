-- A client's world, made of the packets that it was sent, one after another. What each packet does
-- is that of the pages 'Protocol', 'SMP Map Format' and 'Entities' of wiki.vg for protocol 47, as
-- far as it is shown here; every other packet changes nothing.
use Rattle.std.specs.Prelude.{◌≡◌, ℕ, ◌+◌, ◌/◌, ◌%◌, ◌-◌, ◌==◌, ◌&&◌, not, Bool, true, false, List}
use Rattle.std.specs.Prelude.{[], ◌∷◌, ◌++◌, length, drop, replicate, slice_set, take, nat_lt}
use Rattle.std.specs.Prelude.{nat_le, int_le, unsigned_abs, Option, Some, None, Result, Ok, Err}
use Rattle.std.specs.Prelude.{if◌then◌else◌}
use Rattle.std.specs.Int.{cast_unsigned, int_rem_euclid, w8}
use Rattle.std.specs.List.{fold}
use Rattle.std.specs.Ordering.{nat_cmp, int_cmp, int_eq}
use Rattle.std.specs.declared.cmp.Ordering.{Ordering}
use Rattle.std.specs.FinMap.{FinMap, get, insert, remove}
use lib.IntN.{ℤ, pos, negsuc, ◌+ℤ◌}
use Rattle.mc_bytes.specs.declared.fault.FieldFault.{FieldFault}
use Rattle.mc_fields.specs.declared.position.Spot.{Spot}
use Rattle.mc_slots.specs.declared.slot.Slot.{Slot}
use Rattle.mc_slots.specs.declared.slot.Slot.TheVariants as slots
use Rattle.mc_slots.specs.Chest.{chest_size}
use Rattle.mc_column.specs.Cells.{ColumnValue, cell_index, empty_column, with_state}
use Rattle.mc_column.specs.Body.{BodyValue, body_read, put_body}
use Rattle.mc_packets.specs.declared.down.Down.{Down}
use Rattle.mc_packets.specs.declared.down.Down.TheVariants.{KeepAlive, JoinGame, Chat, Time, Chunk}
use Rattle.mc_packets.specs.declared.down.Down.TheVariants.{List as PlayerList, MultiChange, Change}
use Rattle.mc_packets.specs.declared.down.Down.TheVariants.{SpawnPlayer, SpawnObject, SpawnMob}
use Rattle.mc_packets.specs.declared.down.Down.TheVariants.{Equipment}
use Rattle.mc_packets.specs.declared.down.Down.TheVariants.{Destroy, Step, Look, StepLook, Teleport}
use Rattle.mc_packets.specs.declared.down.Down.TheVariants.{HeadLook, Meta, OpenWindow, SetSlot}
use Rattle.mc_packets.specs.declared.down.Down.TheVariants.{CloseWindow, WindowItems}
use Rattle.mc_packets.specs.declared.meta.MetaEntry.{MetaEntry}
use Rattle.mc_packets.specs.declared.meta.MetaValue.{MetaValue}
use Rattle.mc_packets.specs.declared.meta.MetaValue.TheVariants as values
use Rattle.mc_packets.specs.declared.player.Player.{Player}
use Rattle.mc_packets.specs.declared.player.PlayerChange.{PlayerChange}
use Rattle.mc_packets.specs.declared.player.PlayerChange.TheVariants.{Join, Leave}
use Rattle.mc_packets.specs.declared.record.Record.{Record}
use Rattle.mc_land.specs.Places.{Place, Key, place_cmp, key_of}
use Rattle.mc_windows.specs.Pack.{pack_size}
use Rattle.mc_model.specs.declared.seen.SeenKind.{SeenKind}
use Rattle.mc_model.specs.declared.seen.SeenKind.TheVariants as seen_kinds
use Rattle.mc_model.specs.Sight.{ChestWindow, Seen, Sight, nothing_seen}

pub record Replica : Type 0 where
  -- the dimension has a sky, so bodies have sky light
  pub sky : Bool
  pub sight : Sight

abbrev pub new_replica : Replica
new_replica = record { sky = true; sight = nothing_seen }

-- ---- what stands at a key

abbrev pub altered_from : {K X : Type 0} {R : K → K → Ordering} → FinMap R X → K → (X → X) →
    Option X → FinMap R X
altered_from m k f None = m
altered_from m k f (Some v) = insert m k (f v)

-- with what stands at a key changed, if something does
abbrev pub altered : {K X : Type 0} {R : K → K → Ordering} → FinMap R X → K → (X → X) → FinMap R X
altered m k f = altered_from m k f (get m k)

-- ---- the list of players

abbrev pub with_change : FinMap nat_cmp (List ℕ) → ℕ → PlayerChange → FinMap nat_cmp (List ℕ)
with_change pairs uuid (Join name properties mode ping is_shown shown) = insert pairs uuid name
with_change pairs uuid Leave = remove pairs uuid
with_change pairs uuid other = pairs

abbrev pub with_players : FinMap nat_cmp (List ℕ) → List Player → FinMap nat_cmp (List ℕ)
with_players pairs players =
    fold (λ (m : FinMap nat_cmp (List ℕ)) (p : Player). with_change m p.uuid p.change) pairs players

-- ---- columns

abbrev pub Columns : Type 0
Columns = FinMap place_cmp ColumnValue

-- all of a column
abbrev pub loaded : Columns → Place → Result BodyValue FieldFault → Columns
loaded columns place (Ok body) = insert columns place (put_body (empty_column 0) body)
loaded columns place (Err fault) = columns

-- some sections of a column that is there
abbrev pub laid_over : Columns → Place → BodyValue → Option ColumnValue → Columns
laid_over columns place body (Some column) = insert columns place (put_body column body)
laid_over columns place body None = columns

abbrev pub amended : Columns → Place → Result BodyValue FieldFault → Columns
amended columns place (Ok body) = laid_over columns place body (get columns place)
amended columns place (Err fault) = columns

-- A chunk that is all of a column and has no section takes the column away, whatever its bytes.
-- Bytes that spell no body change nothing.
abbrev pub with_chunk : Bool → Columns → Place → Bool → ℕ → List ℕ → Columns
with_chunk sky columns place ground_up mask bytes =
    if ground_up && mask == 0 then remove columns place
    else if ground_up then loaded columns place (body_read mask sky true bytes)
    else amended columns place (body_read mask sky false bytes)

-- ---- cells

-- a state is the low 16 bits of its number
abbrev pub low_state : ℤ → ℕ
low_state state = unsigned_abs (int_rem_euclid state (pos 65536))

-- a cell of a column that is there has another state
abbrev pub with_cell : Columns → Key → ℤ → Columns
with_cell columns key state =
    altered columns key.0 (λ (column : ColumnValue). with_state column key.1 (low_state state))

-- y from 0 to 255
abbrev pub changed_at : Columns → ℤ → ℤ → ℤ → ℤ → Columns
changed_at columns x (pos y) z state =
    if nat_lt y 256 then with_cell columns (key_of x y z) state else columns
changed_at columns x (negsuc y) z state = columns

-- which cell of a column a change of several means: its place is 16 times its x, and its z
abbrev pub record_index : Record → ℕ
record_index r = cell_index (r.place / 16) r.y (r.place % 16)

abbrev pub with_records : Columns → Place → List Record → Columns
with_records columns place records =
    fold (λ (m : Columns) (r : Record). with_cell m (place, record_index r) r.state) columns records

-- ---- entities

abbrev pub Entities : Type 0
Entities = FinMap int_cmp Seen

-- one that comes, of which other packets say what it holds or is; its head looks as it does
abbrev pub coming : SeenKind → Spot → Seen
coming kind spot = record { kind = kind; spot = spot; head = spot.yaw; pile = slots.Empty }

-- an object of kind 2 is a dropped item
abbrev pub with_object : Entities → ℤ → ℤ → Spot → Entities
with_object entities eid kind spot =
    if int_eq kind (pos 2) then insert entities eid (coming seen_kinds.Dropped spot) else entities

abbrev pub without_eids : Entities → List ℤ → Entities
without_eids entities eids = fold (λ (m : Entities) (eid : ℤ). remove m eid) entities eids

abbrev pub is_32_bits : ℤ → Bool
is_32_bits n = int_le (negsuc 2147483647) n && int_le n (pos 2147483647)

-- at another spot, if its place is within 32 bits
abbrev pub put_at : Spot → Seen → Seen
put_at spot e =
    if is_32_bits spot.x && is_32_bits spot.y && is_32_bits spot.z then record e { spot = spot }
    else e

-- so far on
abbrev pub onward : ℤ → ℤ → ℤ → Spot → Spot
onward dx dy dz spot =
    record spot { x = spot.x +ℤ dx; y = spot.y +ℤ dy; z = spot.z +ℤ dz }

abbrev pub looking : ℕ → ℕ → Spot → Spot
looking yaw pitch spot = record spot { yaw = yaw; pitch = pitch }

-- a player has another pile in its hand, where this is what is worn in slot 0; others hold nothing
abbrev pub worn_by : SeenKind → ℤ → Slot → Seen → Seen
worn_by (seen_kinds.Player uuid) worn pile e =
    if int_eq worn (pos 0) then record e { pile = pile } else e
worn_by seen_kinds.Dropped worn pile e = e
worn_by seen_kinds.Mob worn pile e = e

abbrev pub wearing : ℤ → Slot → Seen → Seen
wearing worn pile e = worn_by e.kind worn pile e

-- the slot of index 10 says what lies there, of a dropped item
abbrev pub lying_of : SeenKind → ℕ → Slot → Seen → Seen
lying_of (seen_kinds.Player uuid) index pile e = e
lying_of seen_kinds.Dropped index pile e = if index == 10 then record e { pile = pile } else e
lying_of seen_kinds.Mob index pile e = e

abbrev pub with_value : ℕ → MetaValue → Seen → Seen
with_value index (values.Slot pile) e = lying_of e.kind index pile e
with_value index other e = e

abbrev pub with_metas : List MetaEntry → Seen → Seen
with_metas metas e = fold (λ (s : Seen) (m : MetaEntry). with_value m.index m.value s) e metas

-- ---- the pack, and the window of a chest

-- slots 9 to 44 of window 0
abbrev pub with_own_slot : ℕ → Slot → Sight → Sight
with_own_slot i item p =
    if nat_le 9 i && nat_le i 44 then record p { pack = slice_set p.pack (i - 9) item } else p

-- a slot of the shown chest's window: those of the chest, and behind them those of the pack
abbrev pub with_shown_slot : ChestWindow → ℕ → Slot → Sight → Sight
with_shown_slot w i item p =
    if nat_lt i chest_size
    then record p { window = Some (record w { slots = slice_set w.slots i item }) }
    else if nat_lt i (chest_size + pack_size)
    then record p { pack = slice_set p.pack (i - chest_size) item }
    else p

-- where that has the number
abbrev pub with_chest_slot : Option ChestWindow → ℕ → ℕ → Slot → Sight → Sight
with_chest_slot None number i item p = p
with_chest_slot (Some w) number i item p =
    if number == w.number then with_shown_slot w i item p else p

-- a window is told by a byte with a sign
abbrev pub with_slot : ℤ → ℤ → Slot → Sight → Sight
with_slot window (pos i) item p =
    if int_eq window (pos 0) then with_own_slot i item p
    else with_chest_slot p.window (cast_unsigned w8 window) i item p
with_slot window (negsuc i) item p = p

-- all slots of window 0, of which the pack begins at slot 9
abbrev pub with_own_items : List Slot → Sight → Sight
with_own_items items p =
    if length items == 9 + pack_size then record p { pack = drop 9 items } else p

-- all slots of the shown chest's window
abbrev pub with_chest_items : Option ChestWindow → ℕ → List Slot → Sight → Sight
with_chest_items None number items p = p
with_chest_items (Some w) number items p =
    if number == w.number && length items == chest_size + pack_size then record p {
      window = Some (record w { slots = take chest_size items });
      pack = drop chest_size items;
    } else p

abbrev pub with_items : ℕ → List Slot → Sight → Sight
with_items number items p =
    if number == 0 then with_own_items items p else with_chest_items p.window number items p

-- a window opens, of whose slots nothing is known yet; a chest's has no number 0
abbrev pub with_window : ℕ → Sight → Sight
with_window number p = if number == 0 then p else record p {
  window = Some (record { number = number; slots = replicate chest_size slots.Empty });
}

-- ---- the cursor: slot -1 of window -1

abbrev pub is_cursor : ℤ → ℤ → Bool
is_cursor (negsuc window) (negsuc i) = window == 0 && i == 0
is_cursor window i = false

-- ---- packets

abbrev pub is_overworld : ℤ → Bool
is_overworld (pos n) = n == 0
is_overworld (negsuc n) = false

abbrev pub with_columns : Replica → Columns → Replica
with_columns r columns = record r { sight = record r.sight { columns = columns } }

abbrev pub with_entities : Replica → Entities → Replica
with_entities r entities = record r { sight = record r.sight { entities = entities } }

-- an entity that is known is changed
abbrev pub with_entity : Replica → ℤ → (Seen → Seen) → Replica
with_entity r eid f = with_entities r (altered r.sight.entities eid f)

abbrev pub with_cursor : Replica → Slot → Replica
with_cursor r cursor = record r { sight = record r.sight { cursor = cursor } }

unfoldable pub apply : Replica → Down → Replica
apply r (KeepAlive beat) = record r { sight = record r.sight { beat = Some beat } }
apply r (JoinGame eid mode dimension hardness most level reduced) =
    record r { sky = is_overworld dimension }
apply r (Chat text place) =
    record r { sight = record r.sight { chat = r.sight.chat ++ text ∷ [] } }
apply r (Time age day) = record r { sight = record r.sight { age = Some age } }
apply r (PlayerList action players) =
    record r { sight = record r.sight { pairs = with_players r.sight.pairs players } }
apply r (Chunk cx cz ground_up mask bytes) =
    with_columns r (with_chunk r.sky r.sight.columns (cx, cz) ground_up mask bytes)
apply r (Change cell state) =
    with_columns r (changed_at r.sight.columns cell.x cell.y cell.z state)
apply r (MultiChange cx cz records) =
    with_columns r (with_records r.sight.columns (cx, cz) records)
apply r (SpawnPlayer eid uuid x y z yaw pitch item metas) =
    with_entities r (insert r.sight.entities eid
    (coming (seen_kinds.Player uuid) (record { x = x; y = y; z = z; yaw = yaw; pitch = pitch })))
apply r (SpawnObject eid kind x y z pitch yaw extra motion) =
    with_entities r (with_object r.sight.entities eid kind
    (record { x = x; y = y; z = z; yaw = yaw; pitch = pitch }))
apply r (SpawnMob eid kind x y z yaw pitch head dx dy dz metas) =
    with_entities r (insert r.sight.entities eid (record
    (coming seen_kinds.Mob (record { x = x; y = y; z = z; yaw = yaw; pitch = pitch })) {
      head = head;
    }))
apply r (Destroy eids) = with_entities r (without_eids r.sight.entities eids)
apply r (Step eid dx dy dz on_ground) =
    with_entity r eid (λ (e : Seen). put_at (onward dx dy dz e.spot) e)
apply r (StepLook eid dx dy dz yaw pitch on_ground) =
    with_entity r eid (λ (e : Seen). put_at (looking yaw pitch (onward dx dy dz e.spot)) e)
apply r (Look eid yaw pitch on_ground) =
    with_entity r eid (λ (e : Seen). record e { spot = looking yaw pitch e.spot })
apply r (Teleport eid x y z yaw pitch on_ground) =
    with_entity r eid
    (λ (e : Seen). put_at (record { x = x; y = y; z = z; yaw = yaw; pitch = pitch }) e)
apply r (HeadLook eid head) = with_entity r eid (λ (e : Seen). record e { head = head })
apply r (Equipment eid worn pile) = with_entity r eid (wearing worn pile)
apply r (Meta eid metas) = with_entity r eid (with_metas metas)
apply r (SetSlot window i item) =
    if is_cursor window i then with_cursor r item
    else record r { sight = with_slot window i item r.sight }
apply r (WindowItems number items) = record r { sight = with_items number items r.sight }
apply r (OpenWindow number kind title count horse) =
    record r { sight = with_window number r.sight }
apply r (CloseWindow number) = record r { sight = record r.sight { window = None } }
apply r other = r

abbrev pub replay : Replica → List Down → Replica
replay r packets = fold apply r packets

-- the replica shows exactly this
pub record Shows (r : Replica) (p : Sight) : Type 0 where
  pub beat : r.sight.beat ≡ p.beat
  pub age : r.sight.age ≡ p.age
  pub pairs : r.sight.pairs ≡ p.pairs
  pub columns : r.sight.columns ≡ p.columns
  pub entities : r.sight.entities ≡ p.entities
  pub window : r.sight.window ≡ p.window
  pub pack : r.sight.pack ≡ p.pack
  pub cursor : r.sight.cursor ≡ p.cursor
  pub chat : r.sight.chat ≡ p.chat

-- the replica of a client that sees this
abbrev pub seeing : Sight → Replica
seeing p = record { sky = true; sight = p }
