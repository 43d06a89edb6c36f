-- Each packet is found by its id, and the words of its enum are those of its row.
use Rattle.std.proofs.Common.{◌≡◌, ℕ, List, [], Ok, refl, ◌++◌}
use lib.IntN.{ℤ, pos, negsuc}
use Rattle.mc_bytes.specs.declared.fault.Kind.TheVariants.{BadNumber}
use Rattle.mc_bytes.specs.Reading.{stop_at}
use Rattle.mc_bytes.specs.Combine.{checked_ok}
use Rattle.mc_fields.specs.RowLaws.{append_spelling, row_tied, family_tied}
use Rattle.mc_fields.specs.RowLaws.{spelled_fits, fits_spelled, spelled_again}
use Rattle.mc_fields.specs.Row.{Spells, IsTied, packet_read}
use Rattle.mc_packets.specs.declared.down.Down.{Down}
use Rattle.mc_packets.specs.declared.down.Down.TheVariants.{KeepAlive, Raw}
use Rattle.mc_packets.specs.Down.{is_raw, raw, entry_of, rows_from_00, rows_from_08, rows_from_13}
use Rattle.mc_packets.specs.Down.{rows_from_1B, rows_from_2E, rows_from_3A, rows, SpellsDown}
use Rattle.mc_packets.specs.Down.{FitsDown}
use Rattle.mc_packets.specs.Down.{spelling_of, append_of}

tied_raw : (id : ℤ) (bytes : List ℕ) → IsTied rows (Raw id bytes)
unfolding rows
tied_raw (pos id) bytes given h = family_tied {P = Down} {entry_of = entry_of} is_raw (λ (n : ℕ).
    raw (pos n)) (λ n. refl) (λ _ _ _ s. s) rows_from_00 id bytes given
    (checked_ok (is_raw id) (given, []) (bytes, []) (stop_at BadNumber given) h).0 h
tied_raw (negsuc n) bytes given h = absurd cc

pub tied : (p : Down) → IsTied rows p
unfolding rows rows_from_00 rows_from_08 rows_from_13 rows_from_1B rows_from_2E rows_from_3A
tied (KeepAlive number) = row_tied (entry_of (KeepAlive number)).row
    (entry_of (KeepAlive number)).fields
tied (Raw id bytes) = tied_raw id bytes
tied p = row_tied (entry_of p).row (entry_of p).fields

pub seen : (p : Down) (bytes : List ℕ) → Spells (entry_of p) bytes → SpellsDown p bytes
seen (KeepAlive number) bytes s = s
seen p bytes s = s

pub entry : (p : Down) (bytes : List ℕ) → SpellsDown p bytes → Spells (entry_of p) bytes
entry (KeepAlive number) bytes s = s
entry p bytes s = s

pub fit : (p : Down) (bytes : List ℕ) → SpellsDown p bytes → FitsDown p
fit (KeepAlive number) bytes s = spelled_fits (entry_of (KeepAlive number)) bytes s
fit p bytes s = spelled_fits (entry_of p) bytes s

pub spelled : (p : Down) → FitsDown p → SpellsDown p (spelling_of p)
spelled (KeepAlive number) fits = fits_spelled (entry_of (KeepAlive number)) fits
spelled p fits = fits_spelled (entry_of p) fits

pub again : (p : Down) → FitsDown p → packet_read rows (spelling_of p) ≡ Ok p
again (KeepAlive number) fits = spelled_again rows (KeepAlive number) (tied (KeepAlive number)) fits
again p fits = spelled_again rows p (tied p) fits

pub appended : (p : Down) (out : List ℕ) → append_of p out ≡ out ++ spelling_of p
appended (KeepAlive number) out = append_spelling (entry_of (KeepAlive number)) out
appended p out = append_spelling (entry_of p) out
