-- What was encoded of lines stays their frames as more are encoded, and so is what is found of it.
use Rattle.std.proofs.Common.{◌≡◌, ℕ, zero, suc, List, [], ◌∷◌, ◌++◌, ◌<◌, sym, subst, ap, ◌∙◌}
use Rattle.std.proofs.Common.{Option, None, Some, IfSome, append_assoc, arith, get_or, length, map}
use Rattle.std.proofs.Common.{◌+◌, ◌≤◌, ◌==◌, true, drop, drop_of_length-le, refl}
use Rattle.std.proofs.lemmas.List.{drop_more}
use Rattle.std.proofs.lemmas.Bool.Decides.{nat_tests}
use Rattle.std.specs.List.{AllByRecursion}
use Rattle.mc_model.specs.Delta.{chat_packet}
use Rattle.mc_sending.specs.Sending.{play_bytes}
use Rattle.mc_sending.proofs.Pieces.{play_bytes-append}
use Rattle.mc_flush.specs.declared.encoded_line.EncodedLine.{EncodedLine}
use Rattle.mc_flush.specs.LineFrames.{AreLines, IsLineFrame, all_frames, framed, texts_of}
use Rattle.mc_flush.specs.LineFrames.{with_texts}
use Rattle.mc_flush.specs.Seeing.{line_packets}

-- what holds of all and of one more
pub all_joined : {A : Type 0} (P : A → Type 0) (xs : List A) (x : A) → AllByRecursion P xs → P x →
    AllByRecursion P (xs ++ x ∷ [])
all_joined P [] x all one = (one, tt)
all_joined P (y ∷ xs) x all one = (all.0, all_joined P xs x all.1 one)

-- with the next of what is left it is with all
pub lines_next : (now after : List EncodedLine) (text : List ℕ) (left rest : List (List ℕ))
    (all : List EncodedLine) → left ≡ text ∷ rest → after ≡ now ++ framed text ∷ [] →
    with_texts now left ≡ all → with_texts after rest ≡ all
lines_next now after text left rest all is put so = rw (
  put,
  append_assoc now (framed text ∷ []) (map framed rest),
) (sym (ap (with_texts now) is) ∙ so)

-- what stands at a place
pub line_at : (lines : List EncodedLine) (i : ℕ) (line : EncodedLine) → AreLines lines →
    i < length lines → line ≡ get_or lines i line → IsLineFrame line
line_at [] i line all lt is = absurd (omega (arith, lt))
line_at (x ∷ lines) zero line all lt is = subst IsLineFrame (sym is) all.0
line_at (x ∷ lines) (suc i) line all lt is = line_at lines i line all.1 (omega (arith, lt)) is

-- ---- all of them as one piece

-- lines have the texts that are left where the first has the first, and the others the others
pub texts_next : (lines : List EncodedLine) (rest later : List (List ℕ)) (i : ℕ)
    (line : EncodedLine) (text : List ℕ) → i < length lines → line ≡ get_or lines i line →
    rest ≡ text ∷ later → line.text ≡ text → texts_of (drop (i + 1) lines) ≡ later →
    texts_of (drop i lines) ≡ rest
texts_next lines rest later i line text lt line_is rest_is same more =
    ap texts_of (drop_more lines i line lt
    ∙ ap (λ (x : EncodedLine). x ∷ drop (i + 1) lines) (sym line_is))
    ∙ ap (λ (t : List ℕ). t ∷ texts_of (drop (i + 1) lines)) same
    ∙ ap (λ (ts : List (List ℕ)). text ∷ ts) more
    ∙ sym rest_is

-- where neither is left, the rest have the texts that are left
pub texts_end : (lines : List EncodedLine) (rest : List (List ℕ)) (i : ℕ) → length lines ≤ i →
    (length rest == 0) ≡ true → texts_of (drop i lines) ≡ rest
texts_end lines [] i past empty = ap texts_of (drop_of_length-le lines past)
texts_end lines (text ∷ rest) i past empty = grind (arith, nat_tests)

-- the frames of all are those of their texts
pub frames_are : (lines : List EncodedLine) → AreLines lines →
    all_frames lines ≡ play_bytes (line_packets (texts_of lines))
frames_are [] are = refl
frames_are (x ∷ lines) are = rw (
  are.0,
  frames_are lines are.1,
  play_bytes-append (chat_packet x.text ∷ []) (line_packets (texts_of lines)),
) refl

-- the piece of all is that of these texts, where they are those of all
pub piece_is : (piece : Option (List ℕ)) (lines : List EncodedLine) (texts : List (List ℕ)) →
    IfSome piece (λ bytes. bytes ≡ all_frames lines) → AreLines lines → texts_of lines ≡ texts →
    IfSome piece (λ bytes. bytes ≡ play_bytes (line_packets texts))
piece_is None lines texts is are same = tt
piece_is (Some bytes) lines texts is are same =
    is ∙ frames_are lines are ∙ ap (λ (t : List (List ℕ)). play_bytes (line_packets t)) same
