-- Hex of bytes that stand one behind the other.
use Rattle.std.specs.Prelude.{◌/◌, ◌%◌, slice_index}
use Rattle.std.proofs.Common.{◌≡◌, ℕ, List, [], ◌∷◌, ◌++◌, length, take, drop, refl, sym, ap, ◌∙◌}
use Rattle.std.proofs.Common.{arith}
use Rattle.std.proofs.lemmas.List.{take-append-drop}
use Rattle.hex.specs.Hex.{encode_lower, encode_with}

encode_append : (t xs ys : List ℕ) → encode_with t (xs ++ ys) ≡ encode_with t xs ++ encode_with t ys
unfolding encode_with
encode_append t [] ys = refl
encode_append t (x ∷ xs) ys =
    ap (λ (r : List ℕ). slice_index t (x / 16) ∷ slice_index t (x % 16) ∷ r) (encode_append t xs ys)

pub encode_two : (all front back : List ℕ)
    → all ≡ front ++ back
    → encode_lower all ≡ encode_lower front ++ encode_lower back
encode_two all front back parts = ap encode_lower parts ∙ encode_append _ front back

pub encode_none : (bytes : List ℕ) → bytes ≡ [] → encode_lower bytes ≡ []
unfolding encode_with
encode_none bytes none = ap encode_lower none

-- a first part and the rest
pub encode_cut : (m : ℕ) (all front back : List ℕ)
    → front ≡ take m all
    → back ≡ drop m all
    → ◌≡◌ {A = List ℕ × Unit {0}} (encode_lower all, tt)
    (encode_lower front ++ encode_lower back, tt)
encode_cut m all front back is_front is_back =
    ap (λ (t : List ℕ). (t, tt)) (encode_two all front back (
    sym (take-append-drop m all)
    ∙ ap (λ (t : List ℕ). t ++ drop m all) (sym is_front)
    ∙ ap (λ (t : List ℕ). front ++ t) (sym is_back)))

pub encode_over : (rest : List ℕ) → length rest ≡ 0
    → ◌≡◌ {A = List ℕ × Unit {0}} (encode_lower rest, tt) ([], tt)
encode_over [] none = ap (λ (t : List ℕ). (t, tt)) (encode_none [] refl)
encode_over (b ∷ rest) none = absurd (omega (arith, none))
