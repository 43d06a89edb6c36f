-- VarInts, of the page 'Data types' of wiki.vg for protocol 47: groups of seven bits, the least
-- significant first. A byte's top bit says that another group follows. The sum is a 32-bit number
-- in two's complement.
use Rattle.std.specs.Prelude.{◌≡◌, ℕ, zero, suc, ◌+◌, ◌*◌, ◌/◌, ◌%◌, ◌^◌, ◌<◌, ◌≤◌, List, [], ◌∷◌}
use Rattle.std.specs.Prelude.{length, slice_index, nat_lt, Result, Ok, Err, if◌then◌else◌}
use Rattle.std.specs.Int.{w32, cast_signed, cast_unsigned}
use lib.IntN.{ℤ}
use mir.Val.{SFits}
use Rattle.mc_bytes.specs.declared.fault.Kind.{Kind}
use Rattle.mc_bytes.specs.declared.fault.Kind.TheVariants.{Short, LongVarInt}
use Rattle.mc_bytes.specs.Reading.{Field, ◌>>=◌, stop_at}

-- the low seven bits of each byte, weighed by powers of 128
abbrev pub weighed : List ℕ → ℕ
weighed [] = 0
weighed (b ∷ bytes) = b % 128 + 128 * weighed bytes

-- the last byte lacks the top bit, and each byte before it has it
abbrev pub IsChain : List ℕ → Type 0
IsChain [] = ⊥
IsChain (b ∷ []) = b < 128
IsChain (b ∷ c ∷ bytes) = (128 ≤ b) × (b < 256) × IsChain (c ∷ bytes)

-- these bytes, room of them at most, spell the number
pub record SpellsVarint (room : ℕ) (value : ℤ) (bytes : List ℕ) : Type 0 where
  pub chain : IsChain bytes
  pub within : length bytes ≤ room
  pub sum : value ≡ cast_signed w32 (weighed bytes % 2 ^ 32)

-- there are so many bytes, and each of the first of them says that another follows
pub record GoesOn (count : ℕ) (bytes : List ℕ) : Type 0 where
  pub there : count ≤ length bytes
  pub marked : (k : ℕ) → k < count → 128 ≤ slice_index bytes k

-- the bytes end before room of them are there, and each says that another follows
abbrev pub IsCut : ℕ → List ℕ → Type 0
IsCut room bytes = (length bytes < room) × GoesOn (length bytes) bytes

-- the sum of the groups at the front, and the bytes after them
unfoldable pub groups_read : ℕ → List ℕ → Result (ℕ × List ℕ) Kind
groups_read zero bytes = Err LongVarInt
groups_read (suc room) [] = Err Short
groups_read (suc room) (b ∷ bytes) =
    if nat_lt b 128 then Ok (b, bytes)
    else (groups_read room bytes >>= λ high. Ok (b % 128 + 128 * high.0, high.1))

-- the number of a sum, or the fault at the front of the bytes
abbrev pub number_of : List ℕ → Result (ℕ × List ℕ) Kind → Field ℤ
number_of bytes (Ok sum) = Ok (cast_signed w32 (sum.0 % 2 ^ 32), sum.1)
number_of bytes (Err kind) = Err (stop_at kind bytes)

abbrev pub varint_read : ℕ → List ℕ → Field ℤ
varint_read room bytes = number_of bytes (groups_read room bytes)

-- the fewest groups of a number, room of them at most
unfoldable pub groups_spelling : ℕ → ℕ → List ℕ
groups_spelling zero n = []
groups_spelling (suc room) n =
    if nat_lt n 128 then n ∷ [] else (n % 128 + 128) ∷ groups_spelling room (n / 128)

unfoldable pub varint_spelling : ℤ → List ℕ
varint_spelling value = groups_spelling 5 (cast_unsigned w32 value)

-- the numbers that room for so many bytes has
abbrev pub FitsVarint : ℕ → ℤ → Type 0
FitsVarint room value = SFits w32 value × (cast_unsigned w32 value < 128 ^ room)

-- a VarInt of five bytes at most, as a field: a name that no proof looks into
unfoldable pub var_int_read : List ℕ → Field ℤ
var_int_read bytes = varint_read 5 bytes
