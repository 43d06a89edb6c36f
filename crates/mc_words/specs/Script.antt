-- A script of events, as a text of lines, and the first fault of one that is none. Rules of this
-- project.
use Rattle.std.specs.Prelude.{ℕ, ◌+◌, ◌-◌, ◌==◌, nat_lt, nat_le, Bool, true, false, List, [], ◌∷◌}
use Rattle.std.specs.Prelude.{◌++◌, length, Option, Some, None, Result, Ok, Err, codes}
use Rattle.std.specs.Prelude.{if◌then◌else◌}
use Rattle.std.specs.Result.{result_ok}
use Rattle.std.specs.Str.{bytes_eq, is_utf8}
use Rattle.hex.specs.Hex.{decode_of}
use Rattle.mc_words.specs.declared.bad_input.BadInput.{BadInput}
use Rattle.mc_words.specs.declared.bad_input.InputFault.{InputFault}
use Rattle.mc_words.specs.declared.bad_input.InputFault.TheVariants as faults
use Rattle.mc_words.specs.declared.script_line.Before.{Before}
use Rattle.mc_words.specs.declared.script_line.ScriptEvent.{ScriptEvent}
use Rattle.mc_words.specs.declared.script_line.ScriptEvent.TheVariants.{Joined, Came, Gone, Ticks}
use Rattle.mc_text.specs.Lines.{lines_of, is_skipped, goes_past}
use Rattle.mc_text.specs.Words.{number_of, words_of}

-- ---- hex

-- some bytes as hex, at least one
unfoldable pub hex_of : List ℕ → Option (List ℕ)
hex_of [] = None
hex_of (b ∷ digits) = result_ok (decode_of (b ∷ digits))

-- ---- lines: what stands before a line is the last number that joined, and how many ticks are
-- left of those that a script may have

abbrev pub at_first : Before
at_first = record { last = None; ticks_left = 1000000000 }

-- a number is above all earlier ones, which rise
abbrev pub is_next : Option ℕ → ℕ → Bool
is_next None k = true
is_next (Some last) k = nat_lt last k

abbrev pub numbered : Option ℕ → (ℕ → Result ScriptEvent InputFault) → Result ScriptEvent InputFault
numbered None event = Err faults.Number
numbered (Some n) event = event n

abbrev pub join_event : Before → ℕ → Result ScriptEvent InputFault
join_event before k = if is_next before.last k then Ok (Joined k) else Err faults.Order

abbrev pub bytes_event : ℕ → Option (List ℕ) → Result ScriptEvent InputFault
bytes_event k None = Err faults.Hex
bytes_event k (Some bytes) = Ok (Came k bytes)

abbrev pub ticks_event : Before → ℕ → Result ScriptEvent InputFault
ticks_event before n = if nat_le n before.ticks_left then Ok (Ticks n) else Err faults.Number

-- a connection's number
abbrev pub connection : List ℕ → Option ℕ
connection word = number_of 0 4294967295 word

-- `tick`
abbrev pub one_word : Before → List ℕ → Result ScriptEvent InputFault
one_word before verb =
    if bytes_eq verb (codes "tick") then ticks_event before 1 else Err faults.Word

-- `join K`, `gone K`, `tick N`
abbrev pub two_words : Before → List ℕ → List ℕ → Result ScriptEvent InputFault
two_words before verb word =
    if bytes_eq verb (codes "join") then numbered (connection word) (λ k. join_event before k)
    else if bytes_eq verb (codes "gone") then numbered (connection word) (λ k. Ok (Gone k))
    else if bytes_eq verb (codes "tick") then
    numbered (number_of 1 100000 word) (λ n. ticks_event before n)
    else Err faults.Word

-- `bytes K HEX`
abbrev pub three_words : List ℕ → List ℕ → List ℕ → Result ScriptEvent InputFault
three_words verb word hex =
    if bytes_eq verb (codes "bytes") then
    numbered (connection word) (λ k. bytes_event k (hex_of hex))
    else Err faults.Word

abbrev pub words_event : Before → List (List ℕ) → Result ScriptEvent InputFault
words_event before (verb ∷ []) = one_word before verb
words_event before (verb ∷ word ∷ []) = two_words before verb word
words_event before (verb ∷ word ∷ hex ∷ []) = three_words verb word hex
words_event before other = Err faults.Word

-- ---- texts

abbrev pub some_event : Result ScriptEvent InputFault → Result (Option ScriptEvent) InputFault
some_event (Ok event) = Ok (Some event)
some_event (Err kind) = Err kind

-- the event of a line, or none where it is left out
unfoldable pub line_event : ℕ → ℕ → Before → List ℕ → Result (Option ScriptEvent) InputFault
line_event len size before line =
    if goes_past len size then Err faults.Long
    else if is_skipped line then Ok None
    else if is_utf8 line then some_event (words_event before (words_of line))
    else Err faults.Word

-- what stands before the next line
abbrev pub after_event : Before → ScriptEvent → Before
after_event before (Joined k) = record before { last = Some k }
after_event before (Ticks n) = record before { ticks_left = before.ticks_left - n }
after_event before other = before

-- some events before others
abbrev pub with_events : List ScriptEvent → Result (List ScriptEvent) BadInput →
    Result (List ScriptEvent) BadInput
with_events events (Ok more) = Ok (events ++ more)
with_events events (Err bad) = Err bad

-- the event of line n, and those of the lines behind it
abbrev pub then_ : ℕ → Before → Result (Option ScriptEvent) InputFault →
    (Before → Result (List ScriptEvent) BadInput) → Result (List ScriptEvent) BadInput
then_ n before (Ok None) later = later before
then_ n before (Ok (Some event)) later = with_events (event ∷ []) (later (after_event before event))
then_ n before (Err kind) later = Err (record { at = n; kind = kind })

-- the events of the lines behind the first `count`, which have `size` bytes with their ends, of a
-- text of `len` bytes
unfoldable pub lines_events : ℕ → ℕ → ℕ → Before → List (List ℕ) →
    Result (List ScriptEvent) BadInput
lines_events len count size before [] = Ok []
lines_events len count size before (line ∷ lines) =
    then_ (count + 1) before (line_event len (size + (length line + 1)) before line)
    (λ next. lines_events len (count + 1) (size + (length line + 1)) next lines)

-- the events of a text, or its first fault
unfoldable pub script_of : List ℕ → Result (List ScriptEvent) BadInput
script_of text = lines_events (length text) 0 0 at_first (lines_of text)
