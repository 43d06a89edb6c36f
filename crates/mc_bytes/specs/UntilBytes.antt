-- Values until an end byte: each has a byte before it, which is not that of the end and says how
-- the rest is spelled.
use Rattle.std.specs.Prelude.{◌≡◌, ◌≢◌, ℕ, suc, ◌+◌, ◌<◌, ◌==◌, List, [], ◌∷◌, ◌++◌, length}
use Rattle.std.specs.Prelude.{Option, Some, None, Ok, if◌then◌else◌}
use Rattle.std.specs.Int.{w8}
use Rattle.mc_bytes.specs.Reading.{Field, ◌>>=◌}
use Rattle.mc_bytes.specs.OptionalBytes.{some_read}
use Rattle.mc_bytes.specs.NumberBytes.{number_read, number_spells, number_spelling}
use Rattle.mc_bytes.specs.Times.{until_at}

-- the value that a byte announces, or the end
unfoldable pub headed_read : {A : Type 0} → ℕ → (ℕ → List ℕ → Field A) → List ℕ → Field (Option A)
headed_read end read bytes = do
  head ← number_read w8 bytes
  if head.0 == end then Ok (None, head.1) else some_read (read head.0) head.1

-- the bytes are a value's byte, which is not the end's, and its rest
pub record Headed {A : Type 0} (end : ℕ) (head_of : A → ℕ) (spells : ℕ → A → List ℕ → Type 0)
    (value : A) (bytes : List ℕ) : Type 0 where
  pub front : List ℕ
  pub back : List ℕ
  pub parts : bytes ≡ front ++ back
  pub head_spelled : number_spells w8 (head_of value) front
  pub other : head_of value ≢ end
  pub spelled : spells (head_of value) value back

abbrev pub headed_spells : {A : Type 0} → ℕ → (A → ℕ) → (ℕ → A → List ℕ → Type 0) → Option A
    → List ℕ → Type 0
headed_spells end head_of spells None bytes = bytes ≡ number_spelling w8 end
headed_spells end head_of spells (Some value) bytes = Headed end head_of spells value bytes

-- the rest that a byte announces is that of a value with this byte
abbrev pub IsHead : {A : Type 0} → (A → ℕ) → (ℕ → A → List ℕ → Type 0) → Type 0
IsHead {A} head_of spells =
    (head : ℕ) (value : A) (bytes : List ℕ) → head < 256 → spells head value bytes
    → head_of value ≡ head

-- ---- many of them

abbrev pub until_read : {A : Type 0} → (List ℕ → Field (Option A)) → List ℕ → Field (List A)
until_read step bytes = until_at step (suc (length bytes)) bytes

-- each value's byte is a byte, not that of the end, and its rest has a spelling
abbrev pub headed_fits : {A : Type 0} → ℕ → (A → ℕ) → (ℕ → A → Type 0) → A → Type 0
headed_fits end head_of fits value =
    (head_of value < 256) × (head_of value ≢ end) × fits (head_of value) value

abbrev pub until_spelling : {A : Type 0} → ℕ → (A → ℕ) → (ℕ → A → List ℕ) → List A → List ℕ
until_spelling end head_of spelling [] = number_spelling w8 end
until_spelling end head_of spelling (x ∷ xs) =
    (number_spelling w8 (head_of x) ++ spelling (head_of x) x)
    ++ until_spelling end head_of spelling xs

unfoldable pub until_append : {A : Type 0} → ℕ → (A → ℕ) → (ℕ → A → List ℕ → List ℕ) → List A
    → List ℕ → List ℕ
until_append end head_of append [] out = out ++ number_spelling w8 end
until_append end head_of append (x ∷ xs) out =
    until_append end head_of append xs
    (append (head_of x) x (out ++ number_spelling w8 (head_of x)))

-- a byte and the bound of each value, and a byte for the end
abbrev pub until_most : {A : Type 0} → (A → ℕ) → (ℕ → A → ℕ) → List A → ℕ
until_most head_of most [] = 1
until_most head_of most (x ∷ xs) = 1 + most (head_of x) x + until_most head_of most xs
