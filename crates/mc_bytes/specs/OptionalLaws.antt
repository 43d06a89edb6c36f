-- Laws of a value that is there where a field before it says so.
use Rattle.std.specs.Prelude.{ℕ, Bool, true, false, List, [], Option, Some, None, Ok, refl}
use Rattle.std.proofs.Common.{sym, arith}
use Rattle.std.proofs.lemmas.List.{append-nil}
use Rattle.mc_bytes.specs.declared.fault.Stop.{Stop}
use Rattle.mc_bytes.specs.Reading.{Field}
use Rattle.mc_bytes.specs.Format.{IsFound, IsOnly, IsAppended, IsBounded}
use Rattle.mc_bytes.specs.CombineLaws.{bind_ok, ok_is, Found-is}
use Rattle.mc_bytes.specs.OptionalBytes.{when_spells, when_fits, when_read, when_spelling}
use Rattle.mc_bytes.specs.OptionalBytes.{when_append, when_most}

pub when_found : {A : Type 0} (there : Bool) (spells : A → List ℕ → Type 0) (read : List ℕ
    → Field A) → IsFound spells read → IsFound (when_spells there spells) (when_read there read)
when_found {A} true spells read found bytes x fits e =
    let p = bind_ok (read bytes) (λ (y : A × List ℕ). Ok (Some y.0, y.1)) x e in
    let f = found bytes p.0 fits p.1 in
    Found-is (when_spells true spells) bytes (Some p.0.0, p.0.1) x (ok_is Stop _ _ p.2)
    (record { front = f.front; parts = f.parts; spelled = f.spelled; rest_fits = f.rest_fits })
when_found {A} false spells read found bytes x fits e =
    Found-is (when_spells false spells) bytes (None, bytes) x (ok_is Stop _ _ e)
    (record { front = []; parts = refl; spelled = refl; rest_fits = fits })

pub when_only : {A : Type 0} (Rest : List ℕ → Type 0) (there : Bool) (spells : A → List ℕ
    → Type 0) (read : List ℕ → Field A) → IsOnly Rest spells read
    → IsOnly Rest (when_spells there spells) (when_read there read)
when_only Rest true spells read only (Some a) front rest ends s = rw (only a front rest ends s) refl
when_only Rest true spells read only None front rest ends s = absurd s
when_only Rest false spells read only (Some a) front rest ends s = absurd s
when_only Rest false spells read only None front rest ends s = rw s refl

pub when_fit : {A : Type 0} (there : Bool) (spells : A → List ℕ → Type 0) (fits : A → Type 0)
    → ((a : A) (bytes : List ℕ) → spells a bytes → fits a) → (value : Option A) (bytes : List ℕ)
    → when_spells there spells value bytes → when_fits there fits value
when_fit true spells fits fit (Some a) bytes s = fit a bytes s
when_fit true spells fits fit None bytes s = s
when_fit false spells fits fit (Some a) bytes s = s
when_fit false spells fits fit None bytes s = tt

pub when_spelled : {A : Type 0} (there : Bool) (spells : A → List ℕ → Type 0) (fits : A
    → Type 0) (spelling : A → List ℕ) → ((a : A) → fits a → spells a (spelling a))
    → (value : Option A) → when_fits there fits value
    → when_spells there spells value (when_spelling spelling value)
when_spelled true spells fits spelling spelled (Some a) fitting = spelled a fitting
when_spelled true spells fits spelling spelled None fitting = fitting
when_spelled false spells fits spelling spelled (Some a) fitting = fitting
when_spelled false spells fits spelling spelled None fitting = refl

pub when_appended : {A : Type 0} (spelling : A → List ℕ) (append : A → List ℕ → List ℕ)
    → IsAppended spelling append → IsAppended (when_spelling spelling) (when_append append)
when_appended spelling append appended (Some a) out = appended a out
when_appended spelling append appended None out = sym (append-nil out)

pub when_bounded : {A : Type 0} (there : Bool) (spells : A → List ℕ → Type 0) (most : A → ℕ)
    → IsBounded spells most → IsBounded (when_spells there spells) (when_most most)
when_bounded true spells most bounded (Some a) bytes s = bounded a bytes s
when_bounded true spells most bounded None bytes s = absurd s
when_bounded false spells most bounded (Some a) bytes s = absurd s
when_bounded false spells most bounded None bytes s = rw s (omega arith)
