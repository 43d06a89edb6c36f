-- Spots that stay within 32 bits.
use Rattle.std.proofs.Common.{◌≡◌, ℕ, Bool, true, false, cond, ◌&&◌, Some, None, refl, sym, ap}
use Rattle.std.specs.Option.{unwrap_or}
use lib.IntN.{ℤ}
use Rattle.mc_fields.specs.declared.position.Spot.{Spot}
use Rattle.mc_model.specs.Replica.{looking, put_at, is_32_bits}
use Rattle.mc_model.specs.Sight.{Seen}
use Rattle.mc_replica.specs.Places.{within}

-- what is there sometimes
was : {A : Type 0} (t : Bool) (a x : A) → cond t (Some a) None ≡ Some x → a ≡ x
was true a x e = ap (λ o. unwrap_or o a) e
was false a x e = absurd cc

pub second_gone : {A : Type 0} (s : A) (a b c : Bool) (n : ℤ) → cond b (Some n) None ≡ None →
    cond (a && b && c) (Some s) None ≡ None
second_gone s false b c n e = refl
second_gone s true true c n e = absurd cc
second_gone s true false c n e = refl

pub third_gone : {A : Type 0} (s : A) (a b c : Bool) (n : ℤ) → cond c (Some n) None ≡ None →
    cond (a && b && c) (Some s) None ≡ None
third_gone s false b c n e = refl
third_gone s true false c n e = refl
third_gone s true true true n e = absurd cc
third_gone s true true false n e = refl

pub all_there : (a b c : Bool) (s : Spot) (x y z : ℤ) → cond a (Some s.x) None ≡ Some x →
    cond b (Some s.y) None ≡ Some y → cond c (Some s.z) None ≡ Some z →
    Some (record s { x = x; y = y; z = z }) ≡ cond (a && b && c) (Some s) None
all_there true true true s x y z e f g = λ i. Some (record s {
  x = sym (was true s.x x e) i;
  y = sym (was true s.y y f) i;
  z = sym (was true s.z z g) i;
})
all_there false b c s x y z e f g = absurd cc
all_there true false c s x y z e f g = absurd cc
all_there true true false s x y z e f g = absurd cc

pub put_some : (s t : Spot) (e : Seen) → within s ≡ Some t → record e { spot = t } ≡ put_at s e
put_some s t e is = step (is_32_bits s.x && is_32_bits s.y && is_32_bits s.z) is
  where
    step : (b : Bool) → cond b (Some s) None ≡ Some t →
        record e { spot = t } ≡ cond b (record e { spot = s }) e
    step true is = ap (λ (spot : Spot). record e { spot = spot }) (sym (was true s t is))
    step false is = absurd cc

pub put_looking : (s t : Spot) (yaw pitch : ℕ) (e : Seen) → within s ≡ Some t →
    record e { spot = looking yaw pitch t } ≡ put_at (looking yaw pitch s) e
put_looking s t yaw pitch e is = step (is_32_bits s.x && is_32_bits s.y && is_32_bits s.z) is
  where
    step : (b : Bool) → cond b (Some s) None ≡ Some t → record e { spot = looking yaw pitch t } ≡
        cond b (record e { spot = looking yaw pitch s }) e
    step true is =
        ap (λ (spot : Spot). record e { spot = looking yaw pitch spot }) (sym (was true s t is))
    step false is = absurd cc

pub looking_none : (s : Spot) (yaw pitch : ℕ) (e : Seen) → within s ≡ None →
    e ≡ put_at (looking yaw pitch s) e
looking_none s yaw pitch e is = step (is_32_bits s.x && is_32_bits s.y && is_32_bits s.z) is
  where
    step : (b : Bool) → cond b (Some s) None ≡ None →
        e ≡ cond b (record e { spot = looking yaw pitch s }) e
    step true is = absurd cc
    step false is = refl

pub put_none : (s : Spot) (e : Seen) → within s ≡ None → e ≡ put_at s e
put_none s e is = step (is_32_bits s.x && is_32_bits s.y && is_32_bits s.z) is
  where
    step : (b : Bool) → cond b (Some s) None ≡ None → e ≡ cond b (record e { spot = s }) e
    step true is = absurd cc
    step false is = refl
