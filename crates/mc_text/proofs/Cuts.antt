-- Cutting the first line off a text or the first word off a line, what was put for it, and what is
-- no text.
use Rattle.std.proofs.Common.{◌≡◌, ℕ, ◌+◌, ◌<◌, Bool, true, false, List, [], ◌∷◌, ◌++◌}
use Rattle.std.proofs.Common.{length, take, drop, Option, Some, None, refl, arith}
use Rattle.std.proofs.Common.{ltb-true, ltb-false}
use Rattle.std.specs.Prelude.{position}
use Rattle.std.specs.List.{slice_split}
use Rattle.std.specs.Str.{IsUtf8, is_utf8}
use Rattle.std.proofs.lemmas.List.{length-drop, length-take-le}
use Rattle.std.proofs.lemmas.List.Splits.{slice_split_first, slice_split_none}
use Rattle.std.proofs.lemmas.List.Sums.{fails_before_first}
use Rattle.std.proofs.lemmas.Str.{IsUtf8-from_is_utf8}
use Rattle.std.proofs.lemmas.Bool.Decides.{nat_tests}
use Rattle.mc_text.specs.Lines.{is_line_end, PutsLine, CutsLine}

-- the front of a list up to the first element that parts it, and what follows that
pub cut-some : (p : ℕ → Bool) (text : List ℕ) (end : ℕ) → position p text ≡ Some end →
    (slice_split p text ≡ take end text ∷ slice_split p (drop (end + 1) text)) × (end < length text)
cut-some p text end e = grind (arith, nat_tests, ltb-true, slice_split_first)

-- a list that nothing parts
pub cut-none : (p : ℕ → Bool) (text : List ℕ) → position p text ≡ None →
    slice_split p text ≡ text ∷ []
cut-none p text e = grind (arith, nat_tests, ltb-false, slice_split_none, fails_before_first)

-- a line that is no hex has no bytes
pub not_hex : (line : Option (List ℕ)) (old new : List ℕ) →
    PutsLine line old new false → line ≡ None
not_hex None old new h = refl
not_hex (Some bytes) old new h = absurd (let e = h.0 in cc)

-- a line that is hex has the bytes that were put
pub is_hex : (line : Option (List ℕ)) (old new : List ℕ) → PutsLine line old new true →
    (bytes : List ℕ) × (line ≡ Some bytes) × (new ≡ old ++ bytes)
is_hex None old new h = absurd cc
is_hex (Some bytes) old new h = (bytes, refl, h.1)

-- the first line and its size
pub cuts_line : (text : List ℕ) (end : ℕ) → position is_line_end text ≡ Some end →
    CutsLine text (take end text) (drop (end + 1) text)
cuts_line text end e = grind (arith, nat_tests, cut-some, length-drop, length-take-le)

-- what is not UTF-8 does not pass the test of it
pub not_text : (line : List ℕ) → ¬ IsUtf8 line → false ≡ is_utf8 line
not_text line fails = step (is_utf8 line) refl
  where
    step : (b : Bool) → is_utf8 line ≡ b → false ≡ b
    step true is = absurd (fails (IsUtf8-from_is_utf8 line is))
    step false is = refl
