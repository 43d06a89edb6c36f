-- The packets to a client that asks for the status, of the page 'Protocol' of wiki.vg for protocol
-- 47.
use Rattle.std.specs.Prelude.{ℕ, List}
use Rattle.mc_bytes.specs.Combine.{last}
use Rattle.mc_fields.specs.TextFormat.{string}
use Rattle.mc_fields.specs.Integers.{long}
use Rattle.mc_fields.specs.Row.{Row, packet, Entry, of_row, Spells, Fits, spelling, append, Rows}
use Rattle.mc_fields.specs.Row.Rows.{row, no_more}
use Rattle.mc_hello.specs.declared.status_down.StatusDown.{StatusDown}
use Rattle.mc_hello.specs.declared.status_down.StatusDown.TheVariants.{Response, Pong}

-- 00 Response
abbrev pub response : Row StatusDown
response = packet 0 (last string) (λ json. Response json)

-- 01 Pong
abbrev pub pong : Row StatusDown
pong = packet 1 (last long) (λ number. Pong number)

-- a packet's row and its fields
abbrev pub entry_of : StatusDown → Entry StatusDown
entry_of (Response json) = of_row response json
entry_of (Pong number) = of_row pong number

-- the row of each id
abbrev pub rows : Rows StatusDown entry_of
rows =
    row response (λ _ _ s. s) (
    row pong (λ _ _ s. s) (
    no_more))

-- these bytes spell the packet; it has a spelling; the one that is written; the bytes with
-- that at their end
abbrev pub SpellsStatusDown : StatusDown → List ℕ → Type 0
SpellsStatusDown (Pong number) = Spells (entry_of (Pong number))
SpellsStatusDown other = Spells (entry_of other)

abbrev pub FitsStatusDown : StatusDown → Type 0
FitsStatusDown (Pong number) = Fits (entry_of (Pong number))
FitsStatusDown other = Fits (entry_of other)

abbrev pub spelling_of : StatusDown → List ℕ
spelling_of (Pong number) = spelling (entry_of (Pong number))
spelling_of other = spelling (entry_of other)

abbrev pub append_of : StatusDown → List ℕ → List ℕ
append_of (Pong number) = append (entry_of (Pong number))
append_of other = append (entry_of other)
