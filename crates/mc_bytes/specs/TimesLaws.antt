-- Laws of many values, one after another: what is read is spelled so.
use Rattle.std.specs.Prelude.{◌≡◌, ℕ, zero, suc, List, [], ◌∷◌, ◌++◌, Option, Some, None, Ok, refl}
use Rattle.std.proofs.Common.{sym, ap, ◌∙◌, append_assoc}
use Rattle.mc_bytes.specs.declared.fault.Stop.{Stop}
use Rattle.mc_bytes.specs.Reading.{Field, ◌>>=◌}
use Rattle.mc_bytes.specs.Format.{Found, IsFound}
use Rattle.mc_bytes.specs.CombineLaws.{bind_ok, ok_is, Found-is}
use Rattle.mc_bytes.specs.Times.{SpelledUntil, times_at, times_spells, more_at, until_at}

-- ---- a number of them

pub times_found : {A : Type 0} (spells : A → List ℕ → Type 0) (read : List ℕ → Field A)
    → IsFound spells read → (n : ℕ) → IsFound (times_spells spells n) (times_at read n)
unfolding times_at
times_found {A} spells read found zero bytes x fits e =
    Found-is (times_spells spells 0) bytes ([], bytes) x (ok_is Stop _ _ e) (record {
      front = [];
      parts = refl;
      spelled = (refl, refl);
      rest_fits = fits;
    })
times_found {A} spells read found (suc n) bytes x fits e =
    let p = bind_ok (read bytes) (λ (y : A × List ℕ). times_at read n y.1 >>= λ (ys : List A ×
    List ℕ). Ok (y.0 ∷ ys.0, ys.1)) x e in
    let q = bind_ok (times_at read n p.0.1) (λ (ys : List A × List ℕ). Ok (p.0.0 ∷ ys.0, ys.1)) x
    p.2 in
    let f = found bytes p.0 fits p.1 in
    let g = times_found spells read found n p.0.1 q.0 f.rest_fits q.1 in
    Found-is (times_spells spells (suc n)) bytes (p.0.0 ∷ q.0.0, q.0.1) x (ok_is Stop _ _ q.2)
    (record {
      front = f.front ++ g.front;
      parts = f.parts ∙ ap (λ (t : List ℕ). f.front ++ t) g.parts ∙
          sym (append_assoc f.front g.front q.0.1);
      spelled = (ap suc g.spelled.0, (f.front, g.front, refl, f.spelled, g.spelled.1));
      rest_fits = g.rest_fits;
    })

-- ---- as many as come before an end

until_found_more : {A : Type 0} (spells : Option A → List ℕ → Type 0) (others : List ℕ
    → Field (List A)) → IsFound (SpelledUntil spells) others
    → (bytes : List ℕ) (m : Option A × List ℕ) (x : List A × List ℕ) → Found spells bytes m →
    more_at others m ≡ Ok x → Found (SpelledUntil spells) bytes x
until_found_more {A} spells others found bytes (None, left) x f e =
    Found-is (SpelledUntil spells) bytes ([], left) x (ok_is Stop _ _ e) (record {
      front = f.front;
      parts = f.parts;
      spelled = f.spelled;
      rest_fits = f.rest_fits;
    })
until_found_more {A} spells others found bytes (Some y, left) x f e =
    let q = bind_ok (others left) (λ (ys : List A × List ℕ). Ok (y ∷ ys.0, ys.1)) x e in
    let g = found left q.0 f.rest_fits q.1 in
    Found-is (SpelledUntil spells) bytes (y ∷ q.0.0, q.0.1) x (ok_is Stop _ _ q.2) (record {
      front = f.front ++ g.front;
      parts = f.parts ∙ ap (λ (t : List ℕ). f.front ++ t) g.parts ∙
          sym (append_assoc f.front g.front q.0.1);
      spelled = (f.front, g.front, refl, f.spelled, g.spelled);
      rest_fits = g.rest_fits;
    })

pub until_found : {A : Type 0} (spells : Option A → List ℕ → Type 0) (step : List ℕ
    → Field (Option A)) → IsFound spells step → (fuel : ℕ)
    → IsFound (SpelledUntil spells) (until_at step fuel)
unfolding until_at
until_found {A} spells step found zero bytes x fits e = absurd cc
until_found {A} spells step found (suc fuel) bytes x fits e =
    let p = bind_ok (step bytes) (more_at (until_at step fuel)) x e in
    until_found_more spells (until_at step fuel) (until_found spells step found fuel) bytes p.0 x
    (found bytes p.0 fits p.1) p.2
