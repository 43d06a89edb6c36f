-- Laws of values that have several forms.
use Rattle.std.specs.Prelude.{◌≡◌}
use Rattle.std.proofs.Common.{sym, ap}
use Rattle.mc_bytes.specs.CombineLaws.{IsView}

pub variant_view : {A B : Type 0} (fits : A → Type 0) (make : A → B) (back : B → A) → ((a : A)
    → back (make a) ≡ a) → IsView fits (λ b. b ≡ make (back b)) make back
variant_view fits make back again =
    record { made = λ a f. sym (ap make (again a)); again = λ a f. again a; same = λ b h. sym h }
