-- Frames, of the page 'Protocol' of wiki.vg for protocol 47, before compression is set: the VarInt
-- of the length, of three bytes at most, and that many bytes, one at least.
use Rattle.std.specs.Prelude.{◌≡◌, ℕ, ◌^◌, ◌<◌, List, ◌++◌, length}
use Rattle.std.specs.Prelude.{nat_lt, Err, if◌then◌else◌}
use lib.IntN.{ℤ, pos, negsuc}
use Rattle.mc_bytes.specs.declared.fault.Kind.TheVariants.{BadLength}
use Rattle.mc_bytes.specs.Reading.{Field, ◌>>=◌, stop_at}
use Rattle.mc_bytes.specs.NumberBytes.{octets_read}
use Rattle.mc_fields.specs.Varint.{SpellsVarint, varint_read, varint_spelling}

-- what a frame can hold: one byte at least, and no more than three bytes of length count
pub record IsPayload (payload : List ℕ) : Type 0 where
  pub some : 0 < length payload
  pub counted : length payload < 2 ^ 21

-- the bytes spell a frame with this payload
pub record SpellsFrame (payload bytes : List ℕ) : Type 0 where
  pub size : List ℕ
  pub sized : SpellsVarint 3 (pos (length payload)) size
  pub some : 0 < length payload
  pub parts : bytes ≡ size ++ payload

-- the payload of a stated length, which is one at least
abbrev pub payload_read : List ℕ → ℤ → List ℕ → Field (List ℕ)
payload_read start (negsuc n) bytes = Err (stop_at BadLength start)
payload_read start (pos len) bytes = if nat_lt 0 len then octets_read len bytes else
    Err (stop_at BadLength start)

unfoldable pub frame_read : List ℕ → Field (List ℕ)
frame_read bytes = do
  size ← varint_read 3 bytes
  payload_read bytes size.0 size.1

unfoldable pub frame_spelling : List ℕ → List ℕ
frame_spelling payload = varint_spelling (pos (length payload)) ++ payload
