-- Laws of a value that several others make.
use Rattle.std.specs.Prelude.{◌≡◌, ℕ, ◌≤◌, List, Ok, refl}
use Rattle.std.proofs.Common.{arith}
use Rattle.mc_bytes.specs.declared.fault.Stop.{Stop}
use Rattle.mc_bytes.specs.Reading.{Field}
use Rattle.mc_bytes.specs.Format.{IsFound, IsOnly, IsBounded}
use Rattle.mc_bytes.specs.CombineLaws.{bind_ok, ok_is, Found-is}
use Rattle.mc_bytes.specs.CombineBytes.{view_read}
use Rattle.mc_bytes.specs.MakingBytes.{SpellsMade}

-- what is made fits, and what is picked for a value makes it
pub record IsMaking {A B : Type 0} (fits : A → Type 0) (Fits : B → Type 0) (make : A → B)
    (pick : B → A) : Type 0 where
  pub made : (a : A) → fits a → Fits (make a)
  pub picked : (b : B) → Fits b → fits (pick b)
  pub same : (b : B) → Fits b → make (pick b) ≡ b

pub made_found : {A B : Type 0} (spells : A → List ℕ → Type 0) (read : List ℕ → Field A) (make : A
    → B) → IsFound spells read → IsFound (SpellsMade spells make) (view_read read make)
made_found {A} {B} spells read make found bytes x fits e =
    let p = bind_ok (read bytes) (λ (y : A × List ℕ). Ok (make y.0, y.1)) x e in
    let f = found bytes p.0 fits p.1 in
    Found-is (SpellsMade spells make) bytes (make p.0.0, p.0.1) x (ok_is Stop _ _ p.2) (record {
      front = f.front;
      parts = f.parts;
      spelled = record { source = p.0.0; makes = refl; spelled = f.spelled };
      rest_fits = f.rest_fits;
    })

pub made_only : {A B : Type 0} (Rest : List ℕ → Type 0) (spells : A → List ℕ
    → Type 0) (read : List ℕ → Field A) (make : A → B) → IsOnly Rest spells read
    → IsOnly Rest (SpellsMade spells make) (view_read read make)
made_only Rest spells read make only b front rest ends s =
    rw (only s.source front rest ends s.spelled, s.makes) refl

pub made_fit : {A B : Type 0} (spells : A → List ℕ → Type 0) (fits : A → Type 0) (Fits : B
    → Type 0) (make : A → B) → ((a : A) → fits a → Fits (make a)) → ((a : A) (bytes : List ℕ)
    → spells a bytes → fits a) → (b : B) (bytes : List ℕ) → SpellsMade spells make b bytes → Fits b
made_fit spells fits Fits make made fit b bytes s =
    rw s.makes (made s.source (fit s.source bytes s.spelled))

-- whatever makes a value has no more bytes than is said of the value
abbrev pub IsMost : {A B : Type 0} → (A → Type 0) → (A → B) → (A → ℕ) → (B → ℕ) → Type 0
IsMost {A} fits make most Most = (a : A) → fits a → most a ≤ Most (make a)

pub made_bounded : {A B : Type 0} (spells : A → List ℕ → Type 0) (fits : A → Type 0) (make : A → B)
    (most : A → ℕ) (Most : B → ℕ) → IsMost fits make most Most → ((a : A) (bytes : List ℕ)
    → spells a bytes → fits a) → IsBounded spells most → IsBounded (SpellsMade spells make) Most
made_bounded spells fits make most Most is_most fit bounded b bytes s =
    let few = bounded s.source bytes s.spelled in
    let more = is_most s.source (fit s.source bytes s.spelled) in
    rw s.makes (omega (arith, few, more))
