-- Each packet is found by its id, and the words of its enum are those of its row.
use Rattle.std.proofs.Common.{◌≡◌, ℕ, List, Ok}
use Rattle.mc_fields.specs.Row.{Spells, IsTied, packet_read}
use Rattle.mc_fields.specs.RowLaws.{row_tied, spelled_fits, fits_spelled, spelled_again}
use Rattle.mc_up.specs.declared.play_up.PlayUp.{PlayUp}
use Rattle.mc_up.specs.declared.play_up.PlayUp.TheVariants.{KeepAlive}
use Rattle.mc_up.specs.PlayUp.{entry_of, rows, rows_08, rows_10, rows_18, SpellsPlayUp, FitsPlayUp}
use Rattle.mc_up.specs.PlayUp.{spelling_of}

pub tied : (p : PlayUp) → IsTied rows p
unfolding rows rows_08 rows_10 rows_18
tied (KeepAlive number) = row_tied (entry_of (KeepAlive number)).row
    (entry_of (KeepAlive number)).fields
tied p = row_tied (entry_of p).row (entry_of p).fields

pub seen : (p : PlayUp) (bytes : List ℕ) → Spells (entry_of p) bytes → SpellsPlayUp p bytes
seen (KeepAlive number) bytes s = s
seen p bytes s = s

pub entry : (p : PlayUp) (bytes : List ℕ) → SpellsPlayUp p bytes → Spells (entry_of p) bytes
entry (KeepAlive number) bytes s = s
entry p bytes s = s

pub fit : (p : PlayUp) (bytes : List ℕ) → SpellsPlayUp p bytes → FitsPlayUp p
fit (KeepAlive number) bytes s = spelled_fits (entry_of (KeepAlive number)) bytes s
fit p bytes s = spelled_fits (entry_of p) bytes s

pub spelled : (p : PlayUp) → FitsPlayUp p → SpellsPlayUp p (spelling_of p)
spelled (KeepAlive number) fits = fits_spelled (entry_of (KeepAlive number)) fits
spelled p fits = fits_spelled (entry_of p) fits

pub again : (p : PlayUp) → FitsPlayUp p → packet_read rows (spelling_of p) ≡ Ok p
again (KeepAlive number) fits = spelled_again rows (KeepAlive number) (tied (KeepAlive number)) fits
again p fits = spelled_again rows p (tied p) fits
