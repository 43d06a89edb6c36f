-- Laws of values in another shape: what is read is a spelling, and each spelling is read.
use Rattle.std.specs.Prelude.{◌≡◌, ℕ, List, Ok, refl}
use Rattle.std.proofs.Common.{sym, subst}
use Rattle.mc_bytes.specs.declared.fault.Stop.{Stop}
use Rattle.mc_bytes.specs.Reading.{Field}
use Rattle.mc_bytes.specs.Format.{IsFound, IsOnly}
use Rattle.mc_bytes.specs.CombineBytes.{view_read}
use Rattle.mc_bytes.specs.CombineLaws.{bind_ok, ok_is, Found-is}
use Rattle.mc_fields.specs.Shape.{shaped_spells}

pub shaped_found : {A B : Type 0} (spells : A → List ℕ → Type 0) (read : List ℕ → Field A)
    (make : A → B) (back : B → A) → ((a : A) → back (make a) ≡ a) → IsFound spells read
    → IsFound (shaped_spells spells back) (view_read read make)
shaped_found {A} {B} spells read make back again found bytes x fits e =
    let p = bind_ok (read bytes) (λ (y : A × List ℕ). Ok (make y.0, y.1)) x e in
    let f = found bytes p.0 fits p.1 in
    let P : A → Type 0 = λ a. spells a f.front in
    Found-is (shaped_spells spells back) bytes (make p.0.0, p.0.1) x (ok_is Stop _ _ p.2) (record {
      front = f.front;
      parts = f.parts;
      spelled = subst P (sym (again p.0.0)) f.spelled;
      rest_fits = f.rest_fits;
    })

pub shaped_only : {A B : Type 0} (Rest : List ℕ → Type 0) (spells : A → List ℕ → Type 0)
    (read : List ℕ → Field A) (make : A → B) (back : B → A) → ((b : B) → make (back b) ≡ b)
    → IsOnly Rest spells read → IsOnly Rest (shaped_spells spells back) (view_read read make)
shaped_only Rest spells read make back same only b front rest ends s =
    rw (only (back b) front rest ends s, same b) refl
