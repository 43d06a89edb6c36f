-- A text of lines of hex, each of which stands for some bytes. Rules of this project: lines are
-- parted by LF, and a line that is empty or begins with `#` stands for none.
use Rattle.std.specs.Prelude.{◌≡◌, ℕ, ◌+◌, ◌-◌, ◌<◌, ◌≤◌, ◌&&◌, ◌⊎◌, nat_lt, length, take, ◌==◌}
use Rattle.std.specs.Prelude.{Bool, true, false, List, [], ◌∷◌, ◌++◌, Option, Some, None, if◌then◌else◌}
use Rattle.std.specs.List.{slice_split}
use Rattle.std.specs.Result.{result_ok}
use Rattle.hex.specs.Hex.{decode_of}
use Rattle.mc_wire.specs.Stream.{Consumes, IsAtEnd}
use Rattle.mc_text.specs.declared.lines.TheConstants.{TEXT_MAX}

-- whether a byte ends a line
abbrev pub is_line_end : ℕ → Bool
is_line_end b = b == 10

-- the lines, without their ends
abbrev pub lines_of : List ℕ → List (List ℕ)
lines_of text = slice_split is_line_end text

-- whether a line is left out
abbrev pub is_skipped : List ℕ → Bool
is_skipped [] = true
is_skipped (b ∷ line) = b == 35

-- the bytes of a line, or none where it is no hex
abbrev pub line_bytes : List ℕ → Option (List ℕ)
line_bytes line = if is_skipped line then Some [] else result_ok (decode_of line)

-- the most bytes that a text has
abbrev pub text_max : ℕ
text_max = TEXT_MAX

-- a line goes past the most bytes: the text has too many, and so many are up to the line's end
abbrev pub goes_past : ℕ → ℕ → Bool
goes_past len size = nat_lt text_max len && nat_lt text_max size

-- a line and its end
abbrev pub ended_line : List ℕ → List ℕ
ended_line line = line ++ 10 ∷ []

-- how many bytes some lines have, with their ends
abbrev pub size_of : List (List ℕ) → ℕ
size_of [] = 0
size_of (line ∷ lines) = length line + 1 + size_of lines

-- line n of a text, counted from 1, holds byte p, counted from 1; a line's end is of the line
pub record HoldsByte (input : List ℕ) (n p : ℕ) : Type 0 where
  pub after : size_of (take (n - 1) (lines_of input)) < p
  pub within : p ≤ size_of (take n (lines_of input))

-- the bytes of a line were put behind the others, or it was no hex
abbrev pub PutsLine : Option (List ℕ) → List ℕ → List ℕ → Bool → Type 0
PutsLine None old new is_hex = is_hex ≡ false
PutsLine (Some bytes) old new is_hex = (is_hex ≡ true) × (new ≡ old ++ bytes)

-- a line is the first of a text, and so much follows its end
pub record CutsLine (text line rest : List ℕ) : Type 0 where
  pub lines : lines_of text ≡ line ∷ lines_of rest
  pub size : length line + 1 + length rest ≡ length text

-- a line is all of a text
pub record EndsText (text line : List ℕ) : Type 0 where
  pub lines : lines_of text ≡ line ∷ []
  pub size : length line ≡ length text

-- these bytes of an input were read, which are all of it or one more than a text has at most; no
-- more are read
pub record ReadsText (left left' : Option (List ℕ)) (bytes : List ℕ) : Type 0 where
  pub given : Consumes left left' bytes
  pub within : length bytes ≤ text_max + 1
  pub enough : IsAtEnd left' ⊎ (length bytes ≡ text_max + 1)

-- a text was read to its end, or to one byte past the most that a text has
abbrev pub IsTextRead : Option (List ℕ) → Option (List ℕ) → Type 0
IsTextRead left left' = (bytes : List ℕ) × ReadsText left left' bytes
