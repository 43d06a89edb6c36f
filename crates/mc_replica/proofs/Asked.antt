-- What spells a packet has a byte.
use Rattle.std.proofs.Common.{ℕ, ◌<◌, List, length, ap, arith}
use Rattle.std.proofs.lemmas.List.{length-append}
use Rattle.mc_fields.specs.Row.{Entry, Spells}
use Rattle.mc_fields.specs.VarintLaws.{IsChain-some}
use Rattle.mc_up.specs.declared.play_up.PlayUp.{PlayUp}
use Rattle.mc_up.specs.declared.play_up.PlayUp.TheVariants.{KeepAlive}
use Rattle.mc_up.specs.PlayUp.{SpellsPlayUp, entry_of}

entry_has_bytes : {P : Type 0} (entry : Entry P) (bytes : List ℕ) → Spells entry bytes →
    0 < length bytes
entry_has_bytes entry bytes s = omega (
  arith,
  ap length s.parts,
  length-append s.id_bytes s.field_bytes,
  IsChain-some s.id_bytes s.id_spelled.chain,
)

pub packet_has_bytes : (packet : PlayUp) (bytes : List ℕ) → SpellsPlayUp packet bytes →
    0 < length bytes
packet_has_bytes (KeepAlive number) bytes s = entry_has_bytes (entry_of (KeepAlive number)) bytes s
packet_has_bytes other bytes s = entry_has_bytes (entry_of other) bytes s
