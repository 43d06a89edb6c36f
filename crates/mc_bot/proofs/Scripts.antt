-- How a script is read word by word and line by line, and what that shows of the whole text.
use Rattle.std.proofs.Common.{◌≡◌, ℕ, ◌+◌, ◌≤◌, ◌⊎◌, List, [], ◌∷◌, length, Option, Some, None}
use Rattle.std.proofs.Common.{Result, Ok, Err, refl, sym, ap, ◌∙◌, inl, inr, true, arith}
use Rattle.std.proofs.Common.{◌<◌}
use Rattle.std.specs.Prelude.{MatchOption, is_some}
use Rattle.std.specs.Str.{IsUtf8, chars}
use Rattle.std.proofs.lemmas.Bool.Decides.{nat_tests}
use Rattle.std.proofs.lemmas.List.Splits.{length-slice_split}
use Rattle.std.proofs.lemmas.Str.{is_utf8-from_IsUtf8}
use Rattle.mc_text.specs.Lines.{lines_of, text_max}
use Rattle.mc_text.proofs.Reading.{left_lines, left_size, CutsNext}
use Rattle.mc_text.specs.Words.{is_space, words_of}
use Rattle.mc_text.proofs.Cuts.{not_text}
use Rattle.mc_bot.specs.declared.act.Unread.{Unread}
use Rattle.mc_bot.specs.declared.act.Unread.TheVariants as unread
use Rattle.mc_bot.specs.declared.script.ScriptKind.{ScriptKind}
use Rattle.mc_bot.specs.declared.script.ScriptKind.TheVariants.{Word}
use Rattle.mc_bot.specs.Script.{Begun, line_after, then_lines, lines_after}
use Rattle.mc_bot.specs.ScriptRead.{IsTaken, AreTaken, read_at}
use Rattle.mc_bot.specs.Words.{text_said, words_said}

-- ---- words

-- bytes that are no text
pub no_text : (most : ℕ) (bytes : List ℕ) → ¬ IsUtf8 bytes → text_said most bytes ≡ Err Word
no_text most bytes fails = rw (sym (not_text bytes fails)) refl

-- a text with as many code points as it may have
pub some_text : (most : ℕ) (bytes : List ℕ) (points : ℕ) → IsUtf8 bytes →
    points ≡ length (chars bytes) → ¬ (points ≡ 0) → points ≤ most →
    text_said most bytes ≡ Ok bytes
some_text most bytes points utf8 is some few = grind (arith, nat_tests, is_utf8-from_IsUtf8)

-- six words or more have no form
many_words : (verb a b c d : List ℕ) (more : List (List ℕ)) → 0 < length more →
    words_said (verb ∷ a ∷ b ∷ c ∷ d ∷ more) ≡ Err Word
many_words verb a b c d [] some = absurd (omega (arith, some))
many_words verb a b c d (next ∷ more) some = refl

-- what follows a fifth word makes a line one of six words or more
pub sixth_word : {X : Type 0} (now : X → List ℕ) (P : Type 0) (verb a b c left d : List ℕ)
    (rest : Option X) → MatchOption rest P (λ r. words_of left ≡ d ∷ words_of (now r)) →
    is_some rest ≡ true → words_said (verb ∷ a ∷ b ∷ c ∷ words_of left) ≡ Err Word
sixth_word now P verb a b c left d None cuts more = absurd cc
sixth_word now P verb a b c left d (Some rest) cuts more =
    rw cuts (many_words verb a b c d (words_of (now rest))
    (omega (arith, length-slice_split is_space (now rest))))

-- ---- lines

-- the first lines of a text, so many, were taken, and this is what they came to
pub record HasLines (text : List ℕ) (first : Begun) (count size : ℕ) (begun : Begun)
    (rest : Option (List ℕ)) : Type 0 where
  pub total : size + left_size rest ≡ length text + 1
  pub few : count ≤ size
  pub small : size ≤ text_max + 1
  pub so_far : lines_after (length text) 0 0 first (lines_of text)
      ≡ lines_after (length text) count size begun (left_lines rest)

-- the lines that are left, by the first of them
lines_first : (len count size : ℕ) (begun : Begun) (line : List ℕ) (lines left : List (List ℕ)) →
    left ≡ line ∷ lines → lines_after len count size begun left
    ≡ then_lines (count + 1) (line_after (count + 1) len (size + (length line + 1)) begun line)
    (λ next. lines_after len (count + 1) (size + (length line + 1)) next lines)
unfolding lines_after
lines_first len count size begun line lines left is = rw is refl

-- what a line came to, with those behind it
line_next : (text left line : List ℕ) (first : Begun) (count size : ℕ) (begun : Begun)
    (after : Option (List ℕ)) (came : Result Begun ScriptKind) →
    HasLines text first count size begun (Some left) → CutsNext left line after →
    line_after (count + 1) (length text) (size + (length line + 1)) begun line ≡ came →
    lines_after (length text) 0 0 first (lines_of text) ≡ then_lines (count + 1) came
    (λ next. lines_after (length text) (count + 1) (size + (length line + 1)) next
    (left_lines after))
line_next text left line first count size begun after came h cut is =
    h.so_far ∙ lines_first (length text) count size begun line (left_lines after) (lines_of left)
    cut.lines ∙ ap (λ (r : Result Begun ScriptKind). then_lines (count + 1) r (λ next.
    lines_after (length text) (count + 1) (size + (length line + 1)) next (left_lines after))) is

-- one more line was taken
pub lines_next : (text left line : List ℕ) (first : Begun) (count size : ℕ) (begun begun' : Begun)
    (after : Option (List ℕ)) → HasLines text first count size begun (Some left) →
    CutsNext left line after →
    line_after (count + 1) (length text) (size + (length line + 1)) begun line ≡ Ok begun' →
    (length text ≤ text_max) ⊎ (size + (length line + 1) ≤ text_max) →
    HasLines text first (count + 1) (size + (length line + 1)) begun' after
lines_next text left line first count size begun begun' after h cut is within =
    let total = h.total in
    let few = h.few in
    let sized = cut.size in
    record {
      total = omega (arith, total, sized);
      few = omega (arith, few);
      small = small within;
      so_far = line_next text left line first count size begun after (Ok begun') h cut is;
    }
  where
    small : (length text ≤ text_max) ⊎ (size + (length line + 1) ≤ text_max) →
        size + (length line + 1) ≤ text_max + 1
    small (inl short) = let total = h.total in let sized = cut.size in
        omega (arith, short, total, sized)
    small (inr short) = omega (arith, short)

-- a line is not read, and with it the text
pub lines_fail : (text left line : List ℕ) (first : Begun) (count size : ℕ) (begun begun' : Begun)
    (after : Option (List ℕ)) (error : Unread) →
    HasLines text first count size begun (Some left) → CutsNext left line after →
    IsTaken (line_after (count + 1) (length text) (size + (length line + 1)) begun line) (Err error)
    begun' → AreTaken (lines_after (length text) 0 0 first (lines_of text))
    (Err (read_at (count + 1) error)) begun'
lines_fail text left line first count size begun begun' after (unread.Fault kind) h cut is =
    line_next text left line first count size begun after (Err kind) h cut is
lines_fail text left line first count size begun begun' after unread.NoMemory h cut is = tt

-- no line is left
pub lines_done : (text : List ℕ) (first : Begun) (count size : ℕ) (begun : Begun) →
    HasLines text first count size begun None →
    lines_after (length text) 0 0 first (lines_of text) ≡ Ok begun
unfolding lines_after
lines_done text first count size begun h = h.so_far
