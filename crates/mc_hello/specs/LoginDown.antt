-- The packets to a client that logs in, of the page 'Protocol' of wiki.vg for protocol 47, without
-- encryption and compression.
use Rattle.std.specs.Prelude.{ℕ, List}
use Rattle.mc_bytes.specs.Combine.{last}
use Rattle.mc_fields.specs.TextFormat.{text, string}
use Rattle.mc_fields.specs.Flat.{tuple2}
use Rattle.mc_fields.specs.Row.{Row, packet, Entry, of_row, Spells, Fits, spelling, append, Rows}
use Rattle.mc_fields.specs.Row.Rows.{row, no_more}
use Rattle.mc_hello.specs.declared.login_down.LoginDown.{LoginDown}
use Rattle.mc_hello.specs.declared.login_down.LoginDown.TheVariants.{Disconnect, Success}

-- 00 Disconnect
abbrev pub disconnect : Row LoginDown
disconnect = packet 0 (last string) (λ reason. Disconnect reason)

-- 02 Success
abbrev pub success : Row LoginDown
success = packet 2 (last (tuple2 (text 36) (text 16))) (λ (uuid, name). Success uuid name)

-- a packet's row and its fields
abbrev pub entry_of : LoginDown → Entry LoginDown
entry_of (Disconnect reason) = of_row disconnect reason
entry_of (Success uuid name) = of_row success (uuid, name)

-- the row of each id
abbrev pub rows : Rows LoginDown entry_of
rows =
    row disconnect (λ _ _ s. s) (
    row success (λ _ _ s. s) (
    no_more))

-- these bytes spell the packet; it has a spelling; the one that is written; the bytes with
-- that at their end
abbrev pub SpellsLoginDown : LoginDown → List ℕ → Type 0
SpellsLoginDown (Disconnect reason) = Spells (entry_of (Disconnect reason))
SpellsLoginDown other = Spells (entry_of other)

abbrev pub FitsLoginDown : LoginDown → Type 0
FitsLoginDown (Disconnect reason) = Fits (entry_of (Disconnect reason))
FitsLoginDown other = Fits (entry_of other)

abbrev pub spelling_of : LoginDown → List ℕ
spelling_of (Disconnect reason) = spelling (entry_of (Disconnect reason))
spelling_of other = spelling (entry_of other)

abbrev pub append_of : LoginDown → List ℕ → List ℕ
append_of (Disconnect reason) = append (entry_of (Disconnect reason))
append_of other = append (entry_of other)
