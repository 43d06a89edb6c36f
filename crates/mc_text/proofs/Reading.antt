-- A text that is read line by line.
use Rattle.std.proofs.Common.{◌≡◌, ℕ, ◌+◌, List, [], ◌∷◌, length, Option, Some, None, refl, arith}
use Rattle.std.proofs.Common.{Bor}
use Rattle.std.proofs.lemmas.Bool.Decides.{nat_tests}
use Rattle.std.specs.Prelude.{MatchOption, option_map}
use Rattle.mc_text.specs.Lines.{lines_of, CutsLine, EndsText}

-- ---- what is left of it

abbrev pub left_lines : Option (List ℕ) → List (List ℕ)
left_lines None = []
left_lines (Some text) = lines_of text

abbrev pub left_size : Option (List ℕ) → ℕ
left_size None = 0
left_size (Some text) = length text + 1

-- the first line of what is left, and what follows it
pub record CutsNext (text line : List ℕ) (after : Option (List ℕ)) : Type 0 where
  pub lines : lines_of text ≡ line ∷ left_lines after
  pub size : length line + 1 + left_size after ≡ length text + 1

-- the first line that was cut off, and what follows it
pub cuts_next : (text line : List ℕ) (after : Option (Bor (List ℕ))) →
    MatchOption after (EndsText text line) (λ rest. CutsLine text line rest.now) →
    CutsNext text line (option_map (λ r. r.now) after)
cuts_next text line after e = grind (arith, nat_tests)

-- what is not there is none
pub none_left : (rest : Option (Bor (List ℕ))) → ((x : Bor (List ℕ)) → rest ≡ Some x → ⊥) →
    option_map (λ r. r.now) rest ≡ None
none_left None not_some = refl
none_left (Some x) not_some = absurd (not_some x refl)
