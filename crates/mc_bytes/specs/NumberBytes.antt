-- Bytes as they are, and whole numbers in so many bytes, the highest first: which bytes spell them
-- and what reading gives. (The page 'Data types' of wiki.vg for protocol 47.)
use Rattle.std.specs.Prelude.{◌≡◌, ℕ, ◌^◌, ◌<◌, List, length, take, drop, nat_lt, Ok, Err}
use Rattle.std.specs.Prelude.{if◌then◌else◌}
use mir.Val.{bits}
use Rattle.std.specs.Int.{Width, byte_len, from_be_bytes, to_be_bytes}
use Rattle.mc_bytes.specs.declared.fault.Kind.TheVariants.{Short}
use Rattle.mc_bytes.specs.Reading.{Field, stop_at}

-- ---- bytes as they are

abbrev pub octets_spells : ℕ → List ℕ → List ℕ → Type 0
octets_spells n value bytes = (bytes ≡ value) × (length value ≡ n)

unfoldable pub octets_read : ℕ → List ℕ → Field (List ℕ)
octets_read n bytes =
    if nat_lt (length bytes) n then Err (stop_at Short bytes) else Ok (take n bytes, drop n bytes)

-- ---- whole numbers

unfoldable pub number_spelling : Width → ℕ → List ℕ
number_spelling w n = to_be_bytes w n

unfoldable pub number_read : Width → List ℕ → Field ℕ
number_read w bytes =
    if nat_lt (length bytes) (byte_len w) then Err (stop_at Short bytes)
    else Ok (from_be_bytes w (take (byte_len w) bytes), drop (byte_len w) bytes)

abbrev pub number_spells : Width → ℕ → List ℕ → Type 0
number_spells w n bytes = (n < 2 ^ bits w) × (bytes ≡ number_spelling w n)
