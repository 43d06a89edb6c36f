-- The words of a line, and the numbers that words write. Rules of this project.
use Rattle.std.specs.Prelude.{◌≡◌, ℕ, ◌==◌, Bool, false, List, [], ◌∷◌, Option, None}
use Rattle.std.specs.Prelude.{if◌then◌else◌}
use Rattle.std.specs.List.{slice_split}
use Rattle.mc_text.specs.Digits.{digits_number, within}

-- the words of a line are parted by one space each
abbrev pub is_space : ℕ → Bool
is_space b = b == 32

abbrev pub words_of : List ℕ → List (List ℕ)
words_of line = slice_split is_space line

-- whether zeros stand before a number
abbrev pub has_zeros : List ℕ → Bool
has_zeros (b ∷ c ∷ digits) = b == 48
has_zeros other = false

-- a number in a range, without zeros before it; every range ends below eleven digits
unfoldable pub number_of : ℕ → ℕ → List ℕ → Option ℕ
number_of low high word = if has_zeros word then None else within low high (digits_number 10 word)

-- a word is the first of a line, and this follows the space behind it
abbrev pub CutsWord : List ℕ → List ℕ → List ℕ → Type 0
CutsWord line word rest = words_of line ≡ word ∷ words_of rest

-- a word is all of a line
abbrev pub IsLastWord : List ℕ → List ℕ → Type 0
IsLastWord line word = words_of line ≡ word ∷ []
