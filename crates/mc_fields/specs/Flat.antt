-- Fields in a tuple: one after another, seen as a flat tuple of their values.
use Rattle.std.specs.Prelude.{◌≡◌, ℕ, List, refl}
use Rattle.mc_bytes.specs.Format.{Format, Anything}
use Rattle.mc_bytes.specs.Combine.{◌then◌, view_read}
use Rattle.mc_fields.specs.Shape.{shaped_spells}
use Rattle.mc_fields.specs.ShapeLaws.{shaped_found, shaped_only}

-- equal values in another shape
abbrev pub shaped : {Rest : List ℕ → Type 0} {A B : Type 0} (f : Format Rest A)
    (make : A → B) (back : B → A) → ((a : A) → back (make a) ≡ a) → ((b : B) → make (back b) ≡ b)
    → Format Rest B
shaped {Rest} {A} {B} f make back again same = record {
  spells = shaped_spells f.spells back;
  read = view_read f.read make;
  fits = λ b. f.fits (back b);
  spelling = λ b. f.spelling (back b);
  append = λ b out. f.append (back b) out;
  most = λ b. f.most (back b);
  found = shaped_found f.spells f.read make back again f.found;
  only = shaped_only Rest f.spells f.read make back same f.only;
  fit = λ b bytes s. f.fit (back b) bytes s;
  spelled = λ b fits. f.spelled (back b) fits;
  appended = λ b out. f.appended (back b) out;
  bounded = λ b bytes s. f.bounded (back b) bytes s;
}

-- ---- tuples

-- two fields
abbrev pub tuple2 : {Rest : List ℕ → Type 0} {A B : Type 0}
    → Format Anything A → Format Rest B → Format Rest (A × B)
tuple2 a b = a then λ _. b

-- three fields
abbrev pub tuple3 : {Rest : List ℕ → Type 0} {A B C : Type 0}
    → Format Anything A → Format Anything B → Format Rest C
    → Format Rest (A × B × C)
tuple3 a b c =
    shaped (a then λ _. b then λ _. c)
    (λ (a, (b, c)). (a, b, c))
    (λ (a, b, c). (a, (b, c))) (λ v. refl) (λ v. refl)

-- four fields
abbrev pub tuple4 : {Rest : List ℕ → Type 0} {A B C D : Type 0}
    → Format Anything A → Format Anything B → Format Anything C
    → Format Rest D
    → Format Rest (A × B × C × D)
tuple4 a b c d =
    shaped (a then λ _. b then λ _. c then λ _. d)
    (λ (a, (b, (c, d))). (a, b, c, d))
    (λ (a, b, c, d). (a, (b, (c, d)))) (λ v. refl) (λ v. refl)

-- five fields
abbrev pub tuple5 : {Rest : List ℕ → Type 0} {A B C D E : Type 0}
    → Format Anything A → Format Anything B → Format Anything C
    → Format Anything D → Format Rest E
    → Format Rest (A × B × C × D × E)
tuple5 a b c d e =
    shaped (a then λ _. b then λ _. c then λ _. d then λ _. e)
    (λ (a, (b, (c, (d, e)))). (a, b, c, d, e))
    (λ (a, b, c, d, e). (a, (b, (c, (d, e))))) (λ v. refl) (λ v. refl)

-- six fields
abbrev pub tuple6 : {Rest : List ℕ → Type 0} {A B C D E F : Type 0}
    → Format Anything A → Format Anything B → Format Anything C
    → Format Anything D → Format Anything E → Format Rest F
    → Format Rest (A × B × C × D × E × F)
tuple6 a b c d e f =
    shaped (a then λ _. b then λ _. c then λ _. d then λ _. e then λ _. f)
    (λ (a, (b, (c, (d, (e, f))))). (a, b, c, d, e, f))
    (λ (a, b, c, d, e, f). (a, (b, (c, (d, (e, f)))))) (λ v. refl) (λ v. refl)

-- seven fields
abbrev pub tuple7 : {Rest : List ℕ → Type 0} {A B C D E F G : Type 0}
    → Format Anything A → Format Anything B → Format Anything C → Format Anything D
    → Format Anything E → Format Anything F → Format Rest G
    → Format Rest (A × B × C × D × E × F × G)
tuple7 a b c d e f g =
    shaped (a then λ _. b then λ _. c then λ _. d then λ _. e then λ _. f then λ _. g)
    (λ (a, (b, (c, (d, (e, (f, g)))))). (a, b, c, d, e, f, g))
    (λ (a, b, c, d, e, f, g). (a, (b, (c, (d, (e, (f, g))))))) (λ v. refl) (λ v. refl)
