-- Values that have several forms, each with a format of its own.
use Rattle.std.specs.Prelude.{◌≡◌, ℕ, Bool, true, false, List}
use Rattle.mc_bytes.specs.Format.{Format}
use Rattle.mc_bytes.specs.Combine.{via}
use Rattle.mc_bytes.specs.VariantLaws.{variant_view}

-- one format or another
abbrev pub choose : {Rest : List ℕ → Type 0} {A : Type 0} → Bool → Format Rest A → Format Rest A
    → Format Rest A
choose true f g = f
choose false f g = g

-- the values of one form: back gives what such a value was made of, and anything of another value
abbrev pub variant : {Rest : List ℕ → Type 0} {A B : Type 0} (f : Format Rest A) (make : A
    → B) (back : B → A) → ((a : A) → back (make a) ≡ a) → Format Rest B
variant {Rest} {A} {B} f make back again =
    via f (λ b. b ≡ make (back b)) make back (variant_view f.fits make back again)
