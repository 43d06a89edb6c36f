-- Whole numbers and truth values, of the page 'Data types' of wiki.vg for protocol 47: which bytes
-- spell them and what reading gives. So many bytes, the highest first, in two's complement where
-- there is a sign.
use Rattle.std.specs.Prelude.{◌≡◌, ℕ, ◌+◌, ◌<◌, ◌↔◌, Bool, true, false, not, ◌==◌, List, length}
use Rattle.std.specs.Prelude.{Result, Ok, IfOk, IfErr, IsErrOf}
use Rattle.std.specs.Int.{Width, w8, cast_signed, cast_unsigned}
use lib.IntN.{ℤ}
use mir.Val.{SFits}
use Rattle.mc_bytes.specs.declared.fault.Kind.TheVariants.{Short}
use Rattle.mc_bytes.specs.declared.fault.FieldFault.{FieldFault}
use Rattle.mc_bytes.specs.Reading.{Field}
use Rattle.mc_bytes.specs.CombineBytes.{view_read, view_spells}
use Rattle.mc_bytes.specs.NumberBytes.{number_read, number_spells, number_spelling}
use Rattle.mc_bytes.specs.Placed.{SpelledAt, fault_at}

abbrev pub signed_spells : Width → ℤ → List ℕ → Type 0
signed_spells w = view_spells (number_spells w) (SFits w) (cast_unsigned w)

abbrev pub signed_read : Width → List ℕ → Field ℤ
signed_read w = view_read (number_read w) (cast_signed w)

abbrev pub signed_spelling : Width → ℤ → List ℕ
signed_spelling w value = number_spelling w (cast_unsigned w value)

-- ---- truth values

-- 00 is false and each other byte is true (a rule of this project); 00 and 01 are written

abbrev pub is_true : ℕ → Bool
is_true n = not (n == 0)

abbrev pub bool_byte : Bool → ℕ
bool_byte false = 0
bool_byte true = 1

-- one byte that has this truth value
pub record SpellsBool (value : Bool) (bytes : List ℕ) : Type 0 where
  pub code : ℕ
  pub spelled : number_spells w8 code bytes
  pub seen : value ≡ is_true code

abbrev pub boolean_spelling : Bool → List ℕ
boolean_spelling value = number_spelling w8 (bool_byte value)

abbrev pub boolean_read : List ℕ → Field Bool
boolean_read = view_read (number_read w8) is_true

-- ---- reading from an offset

-- What a reader of a field of len bytes answers: exactly what is spelled at the offset, and Short
-- exactly where fewer bytes are left.
pub record ReadsFixed {A : Type 0} (spells : A → List ℕ → Type 0) (len : ℕ) (bytes : List ℕ)
    (start : ℕ) (result : Result (A × ℕ) FieldFault) : Type 0 where
  pub found : IfOk result (λ read. SpelledAt (spells read.0) bytes start read.1)
  pub only : (a : A) (end : ℕ) → SpelledAt (spells a) bytes start end → result ≡ Ok (a, end)
  pub short : IsErrOf result (fault_at Short start) ↔ (length bytes < start + len)
  pub fault : IfErr result (λ fault. fault ≡ fault_at Short start)
