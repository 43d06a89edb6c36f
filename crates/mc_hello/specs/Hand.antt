-- The packet before any other, of the page 'Protocol' of wiki.vg for protocol 47.
use Rattle.std.specs.Prelude.{ℕ, ◌==◌, ◌||◌, Bool, false, List}
use lib.IntN.{ℤ, pos, negsuc}
use Rattle.mc_bytes.specs.declared.fault.Kind.TheVariants.{BadNumber}
use Rattle.mc_bytes.specs.Format.{Format}
use Rattle.mc_bytes.specs.Combine.{tested, last}
use Rattle.mc_fields.specs.VarintFormat.{var_int}
use Rattle.mc_fields.specs.Flat.{tuple4}
use Rattle.mc_fields.specs.TextFormat.{text}
use Rattle.mc_fields.specs.Integers.{ushort}
use Rattle.mc_fields.specs.Row.{Row, packet, Entry, of_row, Spells, Fits, spelling, append, Rows}
use Rattle.mc_fields.specs.Row.Rows.{row, no_more}
use Rattle.mc_hello.specs.declared.handshake.Hand.{Hand}
use Rattle.mc_hello.specs.declared.handshake.Hand.TheVariants.{Handshake}

-- what a client may want: 1 the status, 2 to log in
abbrev pub is_next : ℤ → Bool
is_next (pos n) = n == 1 || n == 2
is_next (negsuc n) = false

abbrev pub next : {Rest : List ℕ → Type 0} → Format Rest ℤ
next {Rest} = tested (var_int {Rest = Rest}) is_next BadNumber

-- 00 Handshake
abbrev pub handshake : Row Hand
handshake =
    packet 0 (last (tuple4 var_int (text 255) ushort next))
    (λ (protocol, address, port, wanted). Handshake protocol address port wanted)

-- a packet's row and its fields
abbrev pub entry_of : Hand → Entry Hand
entry_of (Handshake protocol address port wanted) =
    of_row handshake (protocol, address, port, wanted)

-- the row of each id
abbrev pub rows : Rows Hand entry_of
rows = row handshake (λ _ _ s. s) no_more

-- these bytes spell the packet; it has a spelling; the one that is written; the bytes with
-- that at their end
abbrev pub SpellsHand : Hand → List ℕ → Type 0
SpellsHand (Handshake protocol address port wanted) =
    Spells (entry_of (Handshake protocol address port wanted))

abbrev pub FitsHand : Hand → Type 0
FitsHand (Handshake protocol address port wanted) =
    Fits (entry_of (Handshake protocol address port wanted))

abbrev pub spelling_of : Hand → List ℕ
spelling_of (Handshake protocol address port wanted) =
    spelling (entry_of (Handshake protocol address port wanted))

abbrev pub append_of : Hand → List ℕ → List ℕ
append_of (Handshake protocol address port wanted) =
    append (entry_of (Handshake protocol address port wanted))
