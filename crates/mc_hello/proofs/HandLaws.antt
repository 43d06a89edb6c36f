-- Each packet is found by its id, and the words of its enum are those of its row.
use Rattle.std.proofs.Common.{◌≡◌, ℕ, List, Ok}
use Rattle.mc_fields.specs.Row.{Spells, IsTied, packet_read}
use Rattle.mc_fields.specs.RowLaws.{row_tied, spelled_fits, fits_spelled, spelled_again}
use Rattle.mc_hello.specs.declared.handshake.Hand.{Hand}
use Rattle.mc_hello.specs.declared.handshake.Hand.TheVariants.{Handshake}
use Rattle.mc_hello.specs.Hand.{entry_of, rows, SpellsHand, FitsHand, spelling_of}

pub tied : (p : Hand) → IsTied rows p
tied (Handshake protocol address port next) =
    row_tied (entry_of (Handshake protocol address port next)).row
    (entry_of (Handshake protocol address port next)).fields

pub seen : (p : Hand) (bytes : List ℕ) → Spells (entry_of p) bytes → SpellsHand p bytes
seen (Handshake protocol address port next) bytes s = s

pub entry : (p : Hand) (bytes : List ℕ) → SpellsHand p bytes → Spells (entry_of p) bytes
entry (Handshake protocol address port next) bytes s = s

pub fit : (p : Hand) (bytes : List ℕ) → SpellsHand p bytes → FitsHand p
fit (Handshake protocol address port next) bytes s =
    spelled_fits (entry_of (Handshake protocol address port next)) bytes s

pub spelled : (p : Hand) → FitsHand p → SpellsHand p (spelling_of p)
spelled (Handshake protocol address port next) fits =
    fits_spelled (entry_of (Handshake protocol address port next)) fits

pub again : (p : Hand) → FitsHand p → packet_read rows (spelling_of p) ≡ Ok p
again (Handshake protocol address port next) fits =
    spelled_again rows (Handshake protocol address port next)
    (tied (Handshake protocol address port next)) fits
