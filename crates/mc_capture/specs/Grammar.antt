-- What a capture is (rules of this project): eight bytes, and then records, each a byte of its kind,
-- the number of its connection and that of its bytes in four bytes each, and these bytes.
use Rattle.std.specs.Prelude.{◌==◌, ◌||◌, ℕ, ◌<◌, ◌≤◌, Bool, List, [], ◌∷◌, ◌++◌, length}
use Rattle.std.specs.Prelude.{if◌then◌else◌}
use Rattle.std.specs.Int.{w32}
use Rattle.std.specs.List.{flat_map}
use Rattle.mc_bytes.specs.Numbers.{number_spelling}
use Rattle.mc_capture.specs.declared.record.Record.{Record}
use Rattle.mc_capture.specs.declared.record.TheConstants.{BYTES_MAX, KINDS}

-- 'MC47CAP' and the version
abbrev pub capture_head : List ℕ
capture_head = 77 ∷ 67 ∷ 52 ∷ 55 ∷ 67 ∷ 65 ∷ 80 ∷ 1 ∷ []

-- bytes from a client, and bytes that it took
abbrev pub has_bytes : ℕ → Bool
has_bytes kind = (kind == 1) || (kind == 4)

abbrev pub most_bytes : ℕ → ℕ
most_bytes kind = if has_bytes kind then BYTES_MAX else 0

pub record IsRecord (r : Record) : Type 0 where
  pub kind : r.kind < KINDS
  pub size : length r.bytes ≤ most_bytes r.kind

-- what stands before the bytes of a record: nine bytes
abbrev pub heading : ℕ → ℕ → ℕ → List ℕ
heading kind connection size =
    kind ∷ (number_spelling w32 connection ++ number_spelling w32 size)

-- a record of a kind and a connection that carries these bytes
abbrev pub record_with : ℕ → ℕ → List ℕ → List ℕ
record_with kind connection carried = heading kind connection (length carried) ++ carried

abbrev pub record_bytes : Record → List ℕ
record_bytes r = record_with r.kind r.connection r.bytes

abbrev pub records_bytes : List Record → List ℕ
records_bytes records = flat_map record_bytes records
