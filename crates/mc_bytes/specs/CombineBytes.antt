-- Values made of values: which bytes spell them and what reading gives. One after another, a value
-- that passes a test, the same bytes seen as another value, and no field at all.
use Rattle.std.specs.Prelude.{◌≡◌, ℕ, Bool, true, List, [], ◌++◌, Ok, Err, if◌then◌else◌}
use Rattle.mc_bytes.specs.declared.fault.Kind.{Kind}
use Rattle.mc_bytes.specs.Reading.{Field, ◌>>=◌, stop_at}

-- ---- one after another; how the second is spelled may depend on the first value

pub record Sequence {A B : Type 0} (first : A → List ℕ → Type 0) (second : A → B → List ℕ → Type 0)
    (value : A × B) (bytes : List ℕ) : Type 0 where
  pub front : List ℕ
  pub back : List ℕ
  pub parts : bytes ≡ front ++ back
  pub first_spelled : first value.0 front
  pub second_spelled : second value.0 value.1 back

abbrev pub sequence_read : {A B : Type 0} → (List ℕ → Field A) → (A → List ℕ → Field B) → List ℕ
    → Field (A × B)
sequence_read first second bytes = do
  a ← first bytes
  b ← second a.0 a.1
  Ok ((a.0, b.0), b.1)

abbrev pub sequence_append : {A B : Type 0} → (A → List ℕ → List ℕ) → (A → B → List ℕ → List ℕ)
    → A × B → List ℕ → List ℕ
sequence_append first second v out = second v.0 v.1 (first v.0 out)

-- ---- a value that passes a test, or else a fault at its place

abbrev pub tested_read : {A : Type 0} → (List ℕ → Field A) → (A → Bool) → Kind → List ℕ → Field A
tested_read read test kind bytes = do
  x ← read bytes
  if test x.0 then Ok x else Err (stop_at kind bytes)

abbrev pub tested_spells : {A : Type 0} → (A → List ℕ → Type 0) → (A → Bool) → A → List ℕ → Type 0
tested_spells spells test a bytes = spells a bytes × (test a ≡ true)

-- ---- bytes of one value, seen as another

abbrev pub view_spells : {A B : Type 0} → (A → List ℕ → Type 0) → (B → Type 0) → (B → A) → B
    → List ℕ → Type 0
view_spells spells Fits back b bytes = Fits b × spells (back b) bytes

abbrev pub view_read : {A B : Type 0} → (List ℕ → Field A) → (A → B) → List ℕ → Field B
view_read read make bytes = do
  x ← read bytes
  Ok (make x.0, x.1)

-- ---- no field at all

abbrev pub none_spells : Unit {0} → List ℕ → Type 0
none_spells value bytes = bytes ≡ []

abbrev pub none_read : List ℕ → Field (Unit {0})
none_read bytes = Ok (tt, bytes)
