-- The packets of a client that asks for the status, of the page 'Protocol' of wiki.vg for protocol
-- 47.
use Rattle.std.specs.Prelude.{ℕ, List}
use Rattle.mc_bytes.specs.Combine.{last, none}
use Rattle.mc_fields.specs.Integers.{long}
use Rattle.mc_fields.specs.Row.{Row, packet, Entry, of_row, Spells, Fits, spelling, append, Rows}
use Rattle.mc_fields.specs.Row.Rows.{row, no_more}
use Rattle.mc_hello.specs.declared.status_up.StatusUp.{StatusUp}
use Rattle.mc_hello.specs.declared.status_up.StatusUp.TheVariants.{Request, Ping}

-- 00 Request
abbrev pub request : Row StatusUp
request = packet 0 none (λ _. Request)

-- 01 Ping
abbrev pub ping : Row StatusUp
ping = packet 1 (last long) (λ number. Ping number)

-- a packet's row and its fields
abbrev pub entry_of : StatusUp → Entry StatusUp
entry_of Request = of_row request tt
entry_of (Ping number) = of_row ping number

-- the row of each id
abbrev pub rows : Rows StatusUp entry_of
rows =
    row request (λ _ _ s. s) (
    row ping (λ _ _ s. s) (
    no_more))

-- these bytes spell the packet; it has a spelling; the one that is written; the bytes with
-- that at their end
abbrev pub SpellsStatusUp : StatusUp → List ℕ → Type 0
SpellsStatusUp (Ping number) = Spells (entry_of (Ping number))
SpellsStatusUp other = Spells (entry_of other)

abbrev pub FitsStatusUp : StatusUp → Type 0
FitsStatusUp (Ping number) = Fits (entry_of (Ping number))
FitsStatusUp other = Fits (entry_of other)

abbrev pub spelling_of : StatusUp → List ℕ
spelling_of (Ping number) = spelling (entry_of (Ping number))
spelling_of other = spelling (entry_of other)

abbrev pub append_of : StatusUp → List ℕ → List ℕ
append_of (Ping number) = append (entry_of (Ping number))
append_of other = append (entry_of other)
