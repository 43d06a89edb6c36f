-- Each packet is found by its id, and the words of its enum are those of its row.
use Rattle.std.proofs.Common.{◌≡◌, ℕ, List, Ok}
use Rattle.mc_fields.specs.Row.{Spells, IsTied, packet_read}
use Rattle.mc_fields.specs.RowLaws.{row_tied, spelled_fits, fits_spelled, spelled_again}
use Rattle.mc_hello.specs.declared.login_down.LoginDown.{LoginDown}
use Rattle.mc_hello.specs.declared.login_down.LoginDown.TheVariants.{Disconnect}
use Rattle.mc_hello.specs.LoginDown.{entry_of, rows, SpellsLoginDown, FitsLoginDown, spelling_of}

pub tied : (p : LoginDown) → IsTied rows p
tied (Disconnect reason) = row_tied (entry_of (Disconnect reason)).row
    (entry_of (Disconnect reason)).fields
tied p = row_tied (entry_of p).row (entry_of p).fields

pub seen : (p : LoginDown) (bytes : List ℕ) → Spells (entry_of p) bytes → SpellsLoginDown p bytes
seen (Disconnect reason) bytes s = s
seen p bytes s = s

pub entry : (p : LoginDown) (bytes : List ℕ) → SpellsLoginDown p bytes → Spells (entry_of p) bytes
entry (Disconnect reason) bytes s = s
entry p bytes s = s

pub fit : (p : LoginDown) (bytes : List ℕ) → SpellsLoginDown p bytes → FitsLoginDown p
fit (Disconnect reason) bytes s = spelled_fits (entry_of (Disconnect reason)) bytes s
fit p bytes s = spelled_fits (entry_of p) bytes s

pub spelled : (p : LoginDown) → FitsLoginDown p → SpellsLoginDown p (spelling_of p)
spelled (Disconnect reason) fits = fits_spelled (entry_of (Disconnect reason)) fits
spelled p fits = fits_spelled (entry_of p) fits

pub again : (p : LoginDown) → FitsLoginDown p → packet_read rows (spelling_of p) ≡ Ok p
again (Disconnect reason) fits = spelled_again rows (Disconnect reason) (tied (Disconnect reason))
    fits
again p fits = spelled_again rows p (tied p) fits
