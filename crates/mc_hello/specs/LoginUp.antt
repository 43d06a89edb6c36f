-- The packet of a client that logs in, of the page 'Protocol' of wiki.vg for protocol 47, without
-- encryption.
use Rattle.std.specs.Prelude.{ℕ, List}
use Rattle.mc_bytes.specs.Combine.{last}
use Rattle.mc_fields.specs.TextFormat.{text}
use Rattle.mc_fields.specs.Row.{Row, packet, Entry, of_row, Spells, Fits, spelling, append, Rows}
use Rattle.mc_fields.specs.Row.Rows.{row, no_more}
use Rattle.mc_hello.specs.declared.login_up.LoginUp.{LoginUp}
use Rattle.mc_hello.specs.declared.login_up.LoginUp.TheVariants.{Start}

-- 00 Start
abbrev pub start : Row LoginUp
start = packet 0 (last (text 16)) (λ name. Start name)

-- a packet's row and its fields
abbrev pub entry_of : LoginUp → Entry LoginUp
entry_of (Start name) = of_row start name

-- the row of each id
abbrev pub rows : Rows LoginUp entry_of
rows = row start (λ _ _ s. s) no_more

-- these bytes spell the packet; it has a spelling; the one that is written; the bytes with
-- that at their end
abbrev pub SpellsLoginUp : LoginUp → List ℕ → Type 0
SpellsLoginUp (Start name) = Spells (entry_of (Start name))

abbrev pub FitsLoginUp : LoginUp → Type 0
FitsLoginUp (Start name) = Fits (entry_of (Start name))

abbrev pub spelling_of : LoginUp → List ℕ
spelling_of (Start name) = spelling (entry_of (Start name))

abbrev pub append_of : LoginUp → List ℕ → List ℕ
append_of (Start name) = append (entry_of (Start name))
