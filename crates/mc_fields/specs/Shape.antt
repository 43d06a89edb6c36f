-- Values in another shape: each value of one has one of the other, and is spelled as that.
use Rattle.std.specs.Prelude.{ℕ, List}

abbrev pub shaped_spells : {A B : Type 0} → (A → List ℕ → Type 0) → (B → A) → B → List ℕ → Type 0
shaped_spells spells back b bytes = spells (back b) bytes
