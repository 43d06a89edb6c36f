-- Packets, of the page 'Protocol' of wiki.vg for protocol 47: a VarInt id, then the packet's
-- fields, and nothing after them. A packet is one row of a table.
use Rattle.std.specs.Prelude.{◌≡◌, ℕ, ◌+◌, ◌-◌, ◌^◌, ◌<◌, ◌==◌, Bool, false, List, [], ◌∷◌, ◌++◌}
use Rattle.std.specs.Prelude.{length, Result, Ok, Err, if◌then◌else◌}
use lib.IntN.{ℤ, pos, negsuc}
use Rattle.mc_bytes.specs.declared.fault.ReadError.{ReadError}
use Rattle.mc_bytes.specs.declared.fault.ReadError.TheVariants as read_errors
use Rattle.mc_bytes.specs.Reading.{Field, ◌>>=◌}
use Rattle.mc_bytes.specs.Format.{Format, Nothing}
use Rattle.mc_bytes.specs.Placed.{fault_at}
use Rattle.mc_fields.specs.declared.packet.RowFault.{RowFault}
use Rattle.mc_fields.specs.declared.packet.RowFault.TheVariants as faults
use Rattle.mc_fields.specs.declared.packet.RowError.{RowError}
use Rattle.mc_fields.specs.declared.packet.RowError.TheVariants as row_errors
use Rattle.mc_fields.specs.declared.packet.PacketFault.{PacketFault}
use Rattle.mc_fields.specs.declared.packet.PacketFault.TheVariants as packet_faults
use Rattle.mc_fields.specs.declared.packet.PacketRead.{PacketRead}
use Rattle.mc_fields.specs.declared.packet.PacketRead.TheVariants as packet_errors
use Rattle.mc_fields.specs.Varint.{SpellsVarint, varint_read, varint_spelling}

-- a packet's row: its id, the format of its fields, and the packet that they make
pub record Row (P : Type 0) : Type 1 where
  pub id : ℕ
  pub Fields : Type 0
  pub format : Format Nothing Fields
  pub make : Fields → P

abbrev pub packet : {P F : Type 0} → ℕ → Format Nothing F → (F → P) → Row P
packet {P} {F} id format make = record { id = id; Fields = F; format = format; make = make }

-- a packet's row and its fields
pub record Entry (P : Type 0) : Type 1 where
  pub row : Row P
  pub fields : row.Fields

abbrev pub of_row : {P : Type 0} (row : Row P) → row.Fields → Entry P
of_row row fields = record { row = row; fields = fields }

-- the bytes spell the packet: a spelling of its id, then one of its fields, and nothing after them
pub record Spells {P : Type 0} (entry : Entry P) (bytes : List ℕ) : Type 0 where
  pub id_bytes : List ℕ
  pub field_bytes : List ℕ
  pub parts : bytes ≡ id_bytes ++ field_bytes
  pub id_spelled : SpellsVarint 5 (pos entry.row.id) id_bytes
  pub fields_spelled : entry.row.format.spells entry.fields field_bytes

-- the packet has a spelling
abbrev pub Fits : {P : Type 0} → Entry P → Type 0
Fits entry = (entry.row.id < 2 ^ 31) × entry.row.format.fits entry.fields

-- the one that is written, which begins with a shortest id
abbrev pub spelling : {P : Type 0} → Entry P → List ℕ
spelling entry = varint_spelling (pos entry.row.id) ++ entry.row.format.spelling entry.fields

-- how many bytes a spelling of the packet has at most: the id has five at most
abbrev pub most : {P : Type 0} → Entry P → ℕ
most entry = 5 + entry.row.format.most entry.fields

-- a row's fields have a spelling
abbrev pub row_fits : {P : Type 0} (row : Row P) → row.Fields → Type 0
row_fits row fields = row.format.fits fields

-- the bytes with it at their end
abbrev pub row_append : {P : Type 0} (row : Row P) → row.Fields → List ℕ → List ℕ
row_append row fields out = row.format.append fields (out ++ varint_spelling (pos row.id))

abbrev pub append : {P : Type 0} → Entry P → List ℕ → List ℕ
append entry out = row_append entry.row entry.fields out

-- ---- the table of rows, and reading by it

-- what a row's fields spell is what the packet that they make spells
abbrev pub IsRowOf : {P : Type 0} → (P → Entry P) → Row P → Type 0
IsRowOf entry_of r =
    (fields : r.Fields) (bytes : List ℕ) → Spells (of_row r fields) bytes
    → Spells (entry_of (r.make fields)) bytes

-- rows, each tied to the packets that it makes; a family is a row for each of several ids
pub data Rows (P : Type 0) (entry_of : P → Entry P) : Type 1 where
  no_more : Rows P entry_of
  row : (r : Row P) → IsRowOf entry_of r → Rows P entry_of → Rows P entry_of
  family : (is_member : ℕ → Bool) (r : ℕ → Row P) → ((id : ℕ) → (r id).id ≡ id)
      → ((id : ℕ) → IsRowOf entry_of (r id)) → Rows P entry_of → Rows P entry_of

-- the fields of one row
abbrev pub fields_read : {P : Type 0} → Row P → List ℕ → Field P
fields_read r bytes = r.format.read bytes >>= λ x. Ok (r.make x.0, x.1)

-- a field's fault is a packet's
abbrev pub lifted : {A : Type 0} → Field A → Result (A × List ℕ) RowFault
lifted (Ok x) = Ok x
lifted (Err stop) = Err (faults.Stop stop)

abbrev pub is_id : ℤ → ℕ → Bool
is_id (pos n) id = n == id
is_id (negsuc n) id = false

-- an id that a family has
abbrev pub is_one_of : (ℕ → Bool) → ℤ → Bool
is_one_of is_member (pos n) = is_member n
is_one_of is_member (negsuc n) = false

abbrev pub size_of : ℤ → ℕ
size_of (pos n) = n
size_of (negsuc n) = n

-- the fields of the row of an id
abbrev pub id_read : {P : Type 0} {entry_of : P → Entry P} → Rows P entry_of → ℤ → List ℕ
    → Result (P × List ℕ) RowFault
id_read no_more id bytes = Err (faults.UnknownId id)
id_read (row r tied rows) id bytes =
    if is_id id r.id then lifted (fields_read r bytes) else id_read rows id bytes
id_read (family is_member r ids tied rows) id bytes =
    if is_one_of is_member id then lifted (fields_read (r (size_of id)) bytes)
    else id_read rows id bytes

-- a packet with nothing after it
abbrev pub whole : {P : Type 0} → P → List ℕ → Result P RowFault
whole packet [] = Ok packet
whole packet (b ∷ bytes) = Err (faults.Trailing (length (b ∷ bytes)))

-- the packet of a frame
unfoldable pub packet_read : {P : Type 0} {entry_of : P → Entry P} → Rows P entry_of → List ℕ
    → Result P RowFault
packet_read rows frame = do
  id ← lifted (varint_read 5 frame)
  packet ← id_read rows id.0 id.1
  whole packet.0 packet.1

-- ---- what is spelled so is read

-- a packet is found under its own id
abbrev pub IsTied : {P : Type 0} {entry_of : P → Entry P} → Rows P entry_of → P → Type 0
IsTied {P} {entry_of} rows p =
    (bytes : List ℕ) → (entry_of p).row.format.read bytes ≡ Ok ((entry_of p).fields, [])
    → id_read rows (pos (entry_of p).row.id) bytes ≡ Ok (p, [])

-- ---- what functions answer

-- the error of a function is the fault that reading gives, unless memory ran out
abbrev pub RowFails : {Y : Type 0} → RowError → Result Y RowFault → Type 0
RowFails row_errors.NoMemory read = Unit {0}
RowFails (row_errors.Fault fault) read = read ≡ Err fault

abbrev pub GivesRow : {X Y : Type 0} → (X → Y) → Result X RowError → Result Y RowFault → Type 0
GivesRow view (Ok x) read = read ≡ Ok (view x)
GivesRow view (Err e) read = RowFails e read

-- the fault of a frame of so many bytes, with its place counted from the front
abbrev pub packet_fault : ℕ → RowFault → PacketFault
packet_fault len (faults.UnknownId id) = packet_faults.UnknownId id
packet_fault len (faults.Stop stop) = packet_faults.Field (fault_at stop.kind (len - stop.left))
packet_fault len (faults.Trailing n) = packet_faults.Trailing n

-- the errors of functions, one layer up
abbrev pub row_error_of : ReadError → RowError
row_error_of read_errors.NoMemory = row_errors.NoMemory
row_error_of (read_errors.Stop stop) = row_errors.Fault (faults.Stop stop)

abbrev pub packet_read_of : ℕ → RowError → PacketRead
packet_read_of len row_errors.NoMemory = packet_errors.NoMemory
packet_read_of len (row_errors.Fault fault) = packet_errors.Fault (packet_fault len fault)

-- the packet that a frame spells, or the first fault
abbrev pub packet_of : {P : Type 0} → List ℕ → Result P RowFault → Result P PacketFault
packet_of frame (Ok packet) = Ok packet
packet_of frame (Err fault) = Err (packet_fault (length frame) fault)

abbrev pub PacketFails : {Y : Type 0} → PacketRead → Result Y PacketFault → Type 0
PacketFails packet_errors.NoMemory read = Unit {0}
PacketFails (packet_errors.Fault fault) read = read ≡ Err fault

-- what a reader of packets answers, unless memory ran out
abbrev pub GivesPacket : {P : Type 0} → Result P PacketRead → Result P PacketFault → Type 0
GivesPacket (Ok packet) read = read ≡ Ok packet
GivesPacket (Err e) read = PacketFails e read
