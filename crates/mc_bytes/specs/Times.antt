-- Many values of one field, one after another: a number of them, or as many as come before an end.
-- Which bytes spell them and what reading gives.
use Rattle.std.specs.Prelude.{◌≡◌, ℕ, zero, suc, List, [], ◌∷◌, ◌++◌, length, Option, Some, None}
use Rattle.std.specs.Prelude.{Ok, Err}
use Rattle.mc_bytes.specs.declared.fault.Kind.TheVariants.{Short}
use Rattle.mc_bytes.specs.Reading.{Field, ◌>>=◌, stop_at}

-- each value is spelled by its own part of the bytes
abbrev pub AllSpelled : {A : Type 0} → (A → List ℕ → Type 0) → List A → List ℕ → Type 0
AllSpelled spells [] bytes = bytes ≡ []
AllSpelled spells (x ∷ xs) bytes =
    (front : List ℕ) × (back : List ℕ) × (bytes ≡ front ++ back)
    × spells x front × AllSpelled spells xs back

-- each value is spelled by its own part of the bytes, and an end by the last part
abbrev pub SpelledUntil : {A : Type 0} → (Option A → List ℕ → Type 0) → List A → List ℕ → Type 0
SpelledUntil spells [] bytes = spells None bytes
SpelledUntil spells (x ∷ xs) bytes =
    (front : List ℕ) × (back : List ℕ) × (bytes ≡ front ++ back)
    × spells (Some x) front × SpelledUntil spells xs back

-- ---- a number of them

unfoldable pub times_at : {A : Type 0} → (List ℕ → Field A) → ℕ → List ℕ → Field (List A)
times_at read zero bytes = Ok ([], bytes)
times_at read (suc n) bytes = do
  x ← read bytes
  xs ← times_at read n x.1
  Ok (x.0 ∷ xs.0, xs.1)

abbrev pub times_spells : {A : Type 0} → (A → List ℕ → Type 0) → ℕ → List A → List ℕ → Type 0
times_spells spells n xs bytes = (length xs ≡ n) × AllSpelled spells xs bytes

-- ---- as many as come before an end

-- one that was read, and the others; or the end
abbrev pub more_at : {A : Type 0} → (List ℕ → Field (List A)) → Option A × List ℕ → Field (List A)
more_at others (None, left) = Ok ([], left)
more_at others (Some x, left) = do
  xs ← others left
  Ok (x ∷ xs.0, xs.1)

-- each takes at least a byte, so fuel above the number of the bytes is enough
unfoldable pub until_at : {A : Type 0} → (List ℕ → Field (Option A)) → ℕ → List ℕ → Field (List A)
until_at step zero bytes = Err (stop_at Short bytes)
until_at step (suc fuel) bytes = do
  x ← step bytes
  more_at (until_at step fuel) x
