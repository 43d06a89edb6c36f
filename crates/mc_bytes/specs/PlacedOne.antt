-- From one place on a format spells one value at most, so no spelling is the front of another.
use Rattle.std.specs.Prelude.{◌≡◌, ℕ, List}
use Rattle.std.proofs.Common.{sym, ap, ◌∙◌}
use Rattle.mc_bytes.specs.declared.fault.FieldFault.{FieldFault}
use Rattle.mc_bytes.specs.Reading.{Field}
use Rattle.mc_bytes.specs.Format.{IsOnly, Anything}
use Rattle.mc_bytes.specs.CombineLaws.{ok_is}
use Rattle.mc_bytes.specs.Placed.{SpelledAt}
use Rattle.mc_bytes.specs.PlacedLaws.{placed_only}

-- and it has one end
pub placed_one : {A : Type 0} (spells : A → List ℕ → Type 0) (read : List ℕ → Field A)
    → IsOnly Anything spells read → (bytes : List ℕ) (start : ℕ) (a b : A) (m n : ℕ)
    → SpelledAt (spells a) bytes start m → SpelledAt (spells b) bytes start n → (a ≡ b) × (m ≡ n)
placed_one {A} spells read only bytes start a b m n s t =
    let first = placed_only spells read only bytes start a m s in
    let second = placed_only spells read only bytes start b n t in
    let same = ok_is FieldFault (a, m) (b, n) (sym first ∙ second) in
    (ap (λ (x : A × ℕ). x.0) same, ap (λ (x : A × ℕ). x.1) same)
