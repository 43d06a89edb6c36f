-- Which form a change has, by the differences that were found.
use Rattle.std.proofs.Common.{◌≡◌, Bool, true, false, cond, not, ◌&&◌, Some, None, refl, ap}
use Rattle.std.proofs.Common.{arith}
use Rattle.std.proofs.lemmas.Bool.Decides.{nat_tests}
use Rattle.std.specs.Option.{unwrap_or}
use lib.IntN.{ℤ}
use Rattle.mc_view.specs.declared.forms.Form.{Form}
use Rattle.mc_view.specs.declared.forms.Form.TheVariants.{Jump}
use Rattle.mc_view.specs.Forms.{are_bytes, form_by}
use Rattle.mc_view.specs.Steps.{byte_between, bytes_between}

-- ---- what is there sometimes

was_same : {A : Type 0} (t : Bool) (a x : A) → cond t (Some a) None ≡ Some x → a ≡ x
was_same true a x e = ap (λ o. unwrap_or o a) e
was_same false a x e = absurd cc

-- ---- differences

pub bytes_there : (a b c x y z : ℤ) → byte_between a ≡ Some x →
    byte_between b ≡ Some y → byte_between c ≡ Some z → bytes_between a b c ≡ Some (x, y, z)
bytes_there a b c x y z e f g = grind (arith, nat_tests)

pub second_gone : (a b c : ℤ) → byte_between b ≡ None → bytes_between a b c ≡ None
second_gone a b c e = grind (arith, nat_tests)

pub third_gone : (a b c : ℤ) → byte_between c ≡ None → bytes_between a b c ≡ None
third_gone a b c e = grind (arith, nat_tests)

-- ---- forms

pub form_there : (a b c x y z : ℤ) (turned : Bool) →
    bytes_between a b c ≡ Some (x, y, z) → form_by x y z turned ≡ form_by a b c turned
form_there a b c x y z turned e =
    grind (arith, nat_tests, was_same (are_bytes a b c) (a, b, c) (x, y, z) e)

jumps : (zero : Bool) (f g : Form) → cond (zero && false) f (cond (not false) Jump g) ≡ Jump
jumps true f g = refl
jumps false f g = refl

pub form_gone : (a b c : ℤ) (turned : Bool) →
    bytes_between a b c ≡ None → form_by a b c turned ≡ Jump
form_gone a b c turned e = grind (arith, nat_tests)
