-- An Option holds one thing or none, and a truth value is one of two.
use Rattle.std.proofs.Common.{◌≡◌, sym, ◌∙◌, Bool, true, false, Option, Some, None}
use Rattle.std.specs.Prelude.{Bool, true, false, Option, Some, None}

-- a value is not there and none
pub some_none : {A : Type 0} (a : A) (o : Option A) → o ≡ Some a → o ≡ None → ⊥
some_none a o some none = let clash : Some a ≡ None = sym some ∙ none in cc

pub some_is : {A : Type 0} (a b : A) → ◌≡◌ {A = Option A} (Some a) (Some b) → a ≡ b
some_is a b e = cc

pub none_some : {A : Type 0} (o : Option A) (a : A) → o ≡ None → o ≡ Some a → ⊥
none_some o a none some = (let clash = sym none ∙ some in cc)

pub not_both : (b : Bool) → b ≡ true → b ≡ false → ⊥
not_both b t f = (let clash : true ≡ false = sym t ∙ f in cc)
