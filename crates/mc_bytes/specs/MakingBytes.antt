-- A value that several others make: which bytes spell it.
use Rattle.std.specs.Prelude.{◌≡◌, ℕ, List}

-- the bytes spell something that makes the value
pub record SpellsMade {A B : Type 0} (spells : A → List ℕ → Type 0) (make : A → B) (value : B)
    (bytes : List ℕ) : Type 0 where
  pub source : A
  pub makes : value ≡ make source
  pub spelled : spells source bytes
