-- Each packet is found by its id, and the words of its enum are those of its row.
use Rattle.std.proofs.Common.{◌≡◌, ℕ, List, Ok}
use Rattle.mc_fields.specs.Row.{Spells, IsTied, packet_read}
use Rattle.mc_fields.specs.RowLaws.{row_tied, spelled_fits, fits_spelled, spelled_again}
use Rattle.mc_hello.specs.declared.status_down.StatusDown.{StatusDown}
use Rattle.mc_hello.specs.declared.status_down.StatusDown.TheVariants.{Pong}
use Rattle.mc_hello.specs.StatusDown.{entry_of, rows, SpellsStatusDown, FitsStatusDown, spelling_of}

pub tied : (p : StatusDown) → IsTied rows p
tied (Pong number) = row_tied (entry_of (Pong number)).row (entry_of (Pong number)).fields
tied p = row_tied (entry_of p).row (entry_of p).fields

pub seen : (p : StatusDown) (bytes : List ℕ) → Spells (entry_of p) bytes → SpellsStatusDown p bytes
seen (Pong number) bytes s = s
seen p bytes s = s

pub entry : (p : StatusDown) (bytes : List ℕ) → SpellsStatusDown p bytes → Spells (entry_of p) bytes
entry (Pong number) bytes s = s
entry p bytes s = s

pub fit : (p : StatusDown) (bytes : List ℕ) → SpellsStatusDown p bytes → FitsStatusDown p
fit (Pong number) bytes s = spelled_fits (entry_of (Pong number)) bytes s
fit p bytes s = spelled_fits (entry_of p) bytes s

pub spelled : (p : StatusDown) → FitsStatusDown p → SpellsStatusDown p (spelling_of p)
spelled (Pong number) fits = fits_spelled (entry_of (Pong number)) fits
spelled p fits = fits_spelled (entry_of p) fits

pub again : (p : StatusDown) → FitsStatusDown p → packet_read rows (spelling_of p) ≡ Ok p
again (Pong number) fits = spelled_again rows (Pong number) (tied (Pong number)) fits
again p fits = spelled_again rows p (tied p) fits
