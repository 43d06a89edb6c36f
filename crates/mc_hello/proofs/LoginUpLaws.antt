-- Each packet is found by its id, and the words of its enum are those of its row.
use Rattle.std.proofs.Common.{◌≡◌, ℕ, List, Ok}
use Rattle.mc_fields.specs.Row.{Spells, IsTied, packet_read}
use Rattle.mc_fields.specs.RowLaws.{row_tied, spelled_fits, fits_spelled, spelled_again}
use Rattle.mc_hello.specs.declared.login_up.LoginUp.{LoginUp}
use Rattle.mc_hello.specs.declared.login_up.LoginUp.TheVariants.{Start}
use Rattle.mc_hello.specs.LoginUp.{entry_of, rows, SpellsLoginUp, FitsLoginUp, spelling_of}

pub tied : (p : LoginUp) → IsTied rows p
tied (Start name) = row_tied (entry_of (Start name)).row (entry_of (Start name)).fields

pub seen : (p : LoginUp) (bytes : List ℕ) → Spells (entry_of p) bytes → SpellsLoginUp p bytes
seen (Start name) bytes s = s

pub entry : (p : LoginUp) (bytes : List ℕ) → SpellsLoginUp p bytes → Spells (entry_of p) bytes
entry (Start name) bytes s = s

pub fit : (p : LoginUp) (bytes : List ℕ) → SpellsLoginUp p bytes → FitsLoginUp p
fit (Start name) bytes s = spelled_fits (entry_of (Start name)) bytes s

pub spelled : (p : LoginUp) → FitsLoginUp p → SpellsLoginUp p (spelling_of p)
spelled (Start name) fits = fits_spelled (entry_of (Start name)) fits

pub again : (p : LoginUp) → FitsLoginUp p → packet_read rows (spelling_of p) ≡ Ok p
again (Start name) fits = spelled_again rows (Start name) (tied (Start name)) fits
