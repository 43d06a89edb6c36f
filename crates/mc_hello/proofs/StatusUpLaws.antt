-- Each packet is found by its id, and the words of its enum are those of its row.
use Rattle.std.proofs.Common.{◌≡◌, ℕ, List, Ok}
use Rattle.mc_fields.specs.Row.{Spells, IsTied, packet_read}
use Rattle.mc_fields.specs.RowLaws.{row_tied, spelled_fits, fits_spelled, spelled_again}
use Rattle.mc_hello.specs.declared.status_up.StatusUp.{StatusUp}
use Rattle.mc_hello.specs.declared.status_up.StatusUp.TheVariants.{Ping}
use Rattle.mc_hello.specs.StatusUp.{entry_of, rows, SpellsStatusUp, FitsStatusUp, spelling_of}

pub tied : (p : StatusUp) → IsTied rows p
tied (Ping number) = row_tied (entry_of (Ping number)).row (entry_of (Ping number)).fields
tied p = row_tied (entry_of p).row (entry_of p).fields

pub seen : (p : StatusUp) (bytes : List ℕ) → Spells (entry_of p) bytes → SpellsStatusUp p bytes
seen (Ping number) bytes s = s
seen p bytes s = s

pub entry : (p : StatusUp) (bytes : List ℕ) → SpellsStatusUp p bytes → Spells (entry_of p) bytes
entry (Ping number) bytes s = s
entry p bytes s = s

pub fit : (p : StatusUp) (bytes : List ℕ) → SpellsStatusUp p bytes → FitsStatusUp p
fit (Ping number) bytes s = spelled_fits (entry_of (Ping number)) bytes s
fit p bytes s = spelled_fits (entry_of p) bytes s

pub spelled : (p : StatusUp) → FitsStatusUp p → SpellsStatusUp p (spelling_of p)
spelled (Ping number) fits = fits_spelled (entry_of (Ping number)) fits
spelled p fits = fits_spelled (entry_of p) fits

pub again : (p : StatusUp) → FitsStatusUp p → packet_read rows (spelling_of p) ≡ Ok p
again (Ping number) fits = spelled_again rows (Ping number) (tied (Ping number)) fits
again p fits = spelled_again rows p (tied p) fits
