-- A value that is there where a field before it says so: which bytes spell it and what reading
-- gives.
use Rattle.std.specs.Prelude.{◌≡◌, ℕ, Bool, true, false, List, [], Option, Some, None, Ok}
use Rattle.std.specs.Prelude.{if◌then◌else◌}
use Rattle.mc_bytes.specs.Reading.{Field, ◌>>=◌}

-- its spelling where it is there, and no bytes where it is not
abbrev pub when_spells : {A : Type 0} → Bool → (A → List ℕ → Type 0) → Option A → List ℕ → Type 0
when_spells true spells (Some a) bytes = spells a bytes
when_spells true spells None bytes = ⊥
when_spells false spells (Some a) bytes = ⊥
when_spells false spells None bytes = bytes ≡ []

abbrev pub when_fits : {A : Type 0} → Bool → (A → Type 0) → Option A → Type 0
when_fits true fits (Some a) = fits a
when_fits true fits None = ⊥
when_fits false fits (Some a) = ⊥
when_fits false fits None = Unit {0}

abbrev pub some_read : {A : Type 0} → (List ℕ → Field A) → List ℕ → Field (Option A)
some_read read bytes = do
  x ← read bytes
  Ok (Some x.0, x.1)

abbrev pub when_read : {A : Type 0} → Bool → (List ℕ → Field A) → List ℕ → Field (Option A)
when_read there read bytes = if there then some_read read bytes else Ok (None, bytes)

abbrev pub when_spelling : {A : Type 0} → (A → List ℕ) → Option A → List ℕ
when_spelling spelling (Some a) = spelling a
when_spelling spelling None = []

abbrev pub when_append : {A : Type 0} → (A → List ℕ → List ℕ) → Option A → List ℕ → List ℕ
when_append append (Some a) out = append a out
when_append append None out = out

abbrev pub when_most : {A : Type 0} → (A → ℕ) → Option A → ℕ
when_most most (Some a) = most a
when_most most None = 0
