-- How what a sink holds grows, one text after another.
use Rattle.std.proofs.Common.{◌≡◌, ℕ, ◌≤◌, ◌⊎◌, inl, inr, List, [], ◌++◌, length, take, Option}
use Rattle.std.proofs.Common.{Some, None, sym, ◌∙◌, append_assoc, arith}
use Rattle.std.proofs.lemmas.List.{append-nil, take_all}
use Rattle.std.proofs.Math.Seq.{take-append-le, take-append_seam}
use Rattle.std.proofs.lemmas.Bool.Decides.{nat_tests}
use Rattle.mc_wire.specs.Stream.{Grows}

-- nothing is behind a text
pub grows_two : (held middle held' : Option (List ℕ)) (first second : List ℕ) →
    Grows held middle first → Grows middle held' second → Grows held held' (first ++ second)
grows_two held middle held' first second a b = grind (arith, nat_tests, append_assoc)

-- some first part of a text is one of a longer text
pub part_of : (n : ℕ) (text more : List ℕ) → (m : ℕ) × (take m (text ++ more) ≡ take n text)
part_of n text more = elim (cases_le n (length text)) [
  | inl within ↦ (n, take-append-le n text more within)
  | inr past ↦ (length text, take-append_seam text more ∙ sym (take_all n text past))
]
  where
    cases_le : (a b : ℕ) → (a ≤ b) ⊎ (b ≤ a)
    cases_le a b = grind arith

-- nothing was written
pub grows_none : (held : Option (List ℕ)) → Grows held held []
grows_none None = tt
grows_none (Some xs) = sym (append-nil xs)

pub grows_same : (A : Type 0) (view : A → Option (List ℕ)) (old new : A) → new ≡ old →
    Grows (view old) (view new) []
grows_same A view old new is = grind (arith, nat_tests, grows_none)
