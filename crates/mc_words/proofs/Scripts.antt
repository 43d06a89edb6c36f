-- How a script is read line by line, and what that shows of the whole text.
use Rattle.std.proofs.Common.{◌≡◌, ℕ, ◌+◌, ◌<◌, ◌≤◌, Bool, true, false, List, [], ◌∷◌, ◌++◌, length}
use Rattle.std.proofs.Common.{Option, Some, None, Result, Ok, Err, refl, sym, ap, ◌∙◌}
use Rattle.std.proofs.Common.{append_assoc, arith}
use Rattle.std.specs.Prelude.{MatchOption, is_some}
use Rattle.std.specs.Result.{result_ok}
use Rattle.std.specs.Str.{IsUtf8, is_utf8}
use Rattle.std.proofs.lemmas.Str.{IsUtf8-from_is_utf8}
use Rattle.std.proofs.lemmas.List.Splits.{length-slice_split}
use Rattle.std.proofs.lemmas.List.{append-nil}
use Rattle.std.proofs.lemmas.Bool.Decides.{nat_tests}
use Rattle.hex.specs.Hex.{decode_of}
use Rattle.mc_words.specs.declared.bad_input.BadInput.{BadInput}
use Rattle.mc_words.specs.declared.bad_input.InputFault.{InputFault}
use Rattle.mc_words.specs.declared.bad_input.InputFault.TheVariants as faults
use Rattle.mc_words.specs.declared.script_line.Before.{Before}
use Rattle.mc_words.specs.declared.script_line.Unread.{Unread}
use Rattle.mc_words.specs.declared.script_line.Unread.TheVariants as unread
use Rattle.mc_words.specs.declared.script_line.ScriptEvent.{ScriptEvent}
use Rattle.mc_words.specs.declared.script_line.ScriptEvent.TheVariants.{Came}
use Rattle.mc_text.specs.Lines.{lines_of, is_skipped, goes_past, PutsLine}
use Rattle.mc_text.specs.Words.{is_space, words_of}
use Rattle.mc_words.specs.Script.{some_event, words_event, hex_of, bytes_event}
use Rattle.mc_words.specs.Script.{line_event, with_events, then_, at_first, lines_events, script_of}
use Rattle.mc_words.specs.ScriptRead.{IsRead, PutsEvent, after_line}
use Rattle.mc_text.proofs.Cuts.{is_hex, not_hex}
use Rattle.mc_text.proofs.Reading.{left_lines, left_size, CutsNext}

-- ---- hex

-- no digit is no byte
pub no_digits : (digits : List ℕ) → length digits ≡ 0 → hex_of digits ≡ None
unfolding hex_of
no_digits [] none = refl
no_digits (b ∷ digits) none = absurd (omega (arith, none))

-- some digits are the bytes that they write
pub some_digits : (digits : List ℕ) → 0 < length digits →
    hex_of digits ≡ result_ok (decode_of digits)
unfolding hex_of
some_digits [] some = absurd (omega (arith, some))
some_digits (b ∷ digits) some = refl

-- digits that are no hex are no bytes
pub came_not : (k : ℕ) (digits old new : List ℕ) (b : Bool) →
    0 < length digits → b ≡ false → PutsLine (result_ok (decode_of digits)) old new b →
    bytes_event k (hex_of digits) ≡ Err faults.Hex
came_not k digits old new b some is puts = grind (arith, nat_tests, some_digits, not_hex)

-- digits that are hex are the bytes that were put
pub came_is : (k : ℕ) (digits old new : List ℕ) (b : Bool) → 0 < length digits → old ≡ [] →
    b ≡ true → PutsLine (result_ok (decode_of digits)) old new b →
    bytes_event k (hex_of digits) ≡ Ok (Came k new)
came_is k digits old new b some none is puts = grind (arith, nat_tests, is_hex, some_digits)

-- ---- words

-- four words or more have no form
many_words : (before : Before) (verb word digits : List ℕ) (more : List (List ℕ)) →
    0 < length more → words_event before (verb ∷ word ∷ digits ∷ more) ≡ Err faults.Word
many_words before verb word digits [] some = absurd (omega (arith, some))
many_words before verb word digits (next ∷ more) some = refl

-- what follows a third space makes a line one of four words or more
pub fourth_word : {X : Type 0} (now : X → List ℕ)
    (P : Type 0) (before : Before) (line verb left word left' digits : List ℕ) (rest : Option X) →
    words_of line ≡ verb ∷ words_of left → words_of left ≡ word ∷ words_of left' →
    MatchOption rest P (λ r. words_of left' ≡ digits ∷ words_of (now r)) → is_some rest ≡ true →
    words_event before (words_of line) ≡ Err faults.Word
fourth_word now P before line verb left word left' digits None first second third more = absurd cc
fourth_word now P before line verb left word left' digits (Some rest) first second third more =
    rw (first, second, third) (many_words before verb word digits (words_of (now rest))
    (omega (arith, length-slice_split is_space (now rest))))

-- ---- lines

-- a line that is not UTF-8
pub line_no_text : (len size : ℕ) (before : Before) (line : List ℕ) (past skipped text : Bool) →
    past ≡ goes_past len size → past ≡ false → skipped ≡ is_skipped line → skipped ≡ false →
    text ≡ is_utf8 line → text ≡ false → line_event len size before line ≡ Err faults.Word
unfolding line_event
line_no_text len size before line past skipped text past-is within skipped-is kept text-is fails =
    rw (sym past-is ∙ within, sym skipped-is ∙ kept, sym text-is ∙ fails) refl

-- a line of words
pub line_words : (len size : ℕ) (before : Before) (line : List ℕ) (past skipped text : Bool) →
    past ≡ goes_past len size →
    past ≡ false → skipped ≡ is_skipped line → skipped ≡ false → text ≡ is_utf8 line → text ≡ true →
    line_event len size before line ≡ some_event (words_event before (words_of line))
unfolding line_event
line_words len size before line past skipped text past-is within skipped-is kept text-is holds =
    rw (sym past-is ∙ within, sym skipped-is ∙ kept, sym text-is ∙ holds) refl

-- what goes wrong with the words goes wrong with the line
pub words_fail : (there : Result ScriptEvent InputFault)
    (line : Result (Option ScriptEvent) InputFault) (error : Unread) → line ≡ some_event there →
    IsRead {A = ScriptEvent} there (Err error) → IsRead {A = Option ScriptEvent} line (Err error)
words_fail there line (unread.Fault kind) is fault = is ∙ ap some_event fault
words_fail there line unread.NoMemory is fault = tt

-- ---- texts

-- the first lines of a text, so many, were read, and these are their events
pub record HasScript (text : List ℕ) (count size : ℕ) (before : Before) (rest : Option (List ℕ))
    (events : List ScriptEvent) : Type 0 where
  pub total : size + left_size rest ≡ length text + 1
  pub few : count ≤ size
  pub so_far : script_of text
      ≡ with_events events (lines_events (length text) count size before (left_lines rest))

with_none : (r : Result (List ScriptEvent) BadInput) → r ≡ with_events [] r
with_none (Ok events) = refl
with_none (Err bad) = refl

with_both : (events more : List ScriptEvent) (r : Result (List ScriptEvent) BadInput) →
    with_events events (with_events more r) ≡ with_events (events ++ more) r
with_both events more r = grind (arith, nat_tests, append_assoc)

-- nothing was read yet
pub script_start : (text : List ℕ) → HasScript text 0 0 at_first (Some text) []
unfolding script_of
script_start text = grind (arith, nat_tests)

-- the lines that are left, by the first of them
lines_next : (len count size : ℕ) (before : Before) (line : List ℕ) (lines left : List (List ℕ)) →
    left ≡ line ∷ lines → lines_events len count size before left
    ≡ then_ (count + 1) before (line_event len (size + (length line + 1)) before line) (λ next.
    lines_events len (count + 1) (size + (length line + 1)) next lines)
unfolding lines_events
lines_next len count size before line lines left is = rw is refl

-- the event of one more line
event_next : (events events' : List ScriptEvent) (n : ℕ) (before : Before)
    (event : Option ScriptEvent) (later : Before → Result (List ScriptEvent) BadInput) →
    PutsEvent event events events' → with_events events (then_ n before (Ok event) later)
    ≡ with_events events' (later (after_line before event))
event_next events events' n before event later puts = grind (arith, nat_tests, with_both)

-- one more line was read
pub script_next : (text left line : List ℕ) (count size : ℕ) (before : Before)
    (after : Option (List ℕ)) (event : Option ScriptEvent) (events events' : List ScriptEvent) →
    HasScript text count size before (Some left) events → CutsNext left line after →
    line_event (length text) (size + (length line + 1)) before line ≡ Ok event →
    PutsEvent event events events' →
    HasScript text (count + 1) (size + (length line + 1)) (after_line before event) after events'
script_next text left line count size before after event events events' h cut is puts =
    let total = h.total in
    let few = h.few in
    let sized = cut.size in
    record {
      total = omega (arith, total, sized);
      few = omega (arith, few);
      so_far = h.so_far ∙ ap (with_events events)
          (lines_next (length text) count size before line (left_lines after)
          (lines_of left) cut.lines ∙ ap (λ (r : Result (Option ScriptEvent) InputFault).
          then_ (count + 1) before r (λ next. lines_events (length text)
          (count + 1) (size + (length line + 1)) next (left_lines after))) is)
          ∙ event_next events events' (count + 1) before event (λ next. lines_events (length text)
          (count + 1) (size + (length line + 1)) next (left_lines after)) puts;
    }

-- a line has a fault, the first of the text
pub script_fault : (text left line : List ℕ) (count size : ℕ)
    (before : Before) (after : Option (List ℕ)) (kind : InputFault) (events : List ScriptEvent) →
    HasScript text count size before (Some left) events → CutsNext left line after →
    line_event (length text) (size + (length line + 1)) before line ≡ Err kind →
    script_of text ≡ Err (record { at = count + 1; kind = kind })
script_fault text left line count size before after kind events h cut is =
    h.so_far ∙ ap (with_events events) (lines_next (length text) count size before line
    (left_lines after) (lines_of left) cut.lines
    ∙ ap (λ (r : Result (Option ScriptEvent) InputFault). then_ (count + 1) before r (λ next.
    lines_events (length text) (count + 1) (size + (length line + 1)) next (left_lines after)))
    is)

-- no line is left
pub script_done : (text : List ℕ) (count size : ℕ) (before : Before) (events : List ScriptEvent) →
    HasScript text count size before None events → script_of text ≡ Ok events
unfolding lines_events
script_done text count size before events h =
    h.so_far ∙ ap (λ (t : List ScriptEvent). Ok t) (append-nil events)
