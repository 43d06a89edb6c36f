-- What is known of the events of a script: their bytes are bytes, and their ticks are not too many.
use Rattle.std.proofs.Common.{◌≡◌, ℕ, zero, suc, ◌+◌, ◌≤◌, Bool, true, false, cond, List, [], ◌∷◌}
use Rattle.std.proofs.Common.{◌++◌, length, map, refl, subst, arith}
use Rattle.std.specs.Prelude.{Option, Some, None, Result, Ok, Err, IfOk, IfSome, codes}
use Rattle.std.specs.Prelude.{replicate}
use Rattle.std.specs.FinMap.{entries}
use Rattle.std.specs.List.{filter}
use Rattle.std.specs.Result.{result_ok}
use Rattle.std.specs.Str.{bytes_eq}
use Rattle.std.proofs.lemmas.List.Sums.{sum_by-cons}
use Rattle.std.proofs.lemmas.Bool.Decides.{nat_tests}
use Rattle.hex.specs.declared.error.FromHexError.{FromHexError}
use Rattle.hex.specs.Hex.{decode_of}
use Rattle.hex.proofs.HexLemmas.{decode_of-ok}
use Rattle.mc_bytes.specs.Reading.{IsBytes}
use Rattle.mc_model.specs.Step.{Event, came, ticked, took, forgot, step}
use Rattle.mc_model.specs.Run.{AreBytes}
use Rattle.mc_model.specs.Link.{Link}
use Rattle.mc_model.specs.World.{World}
use Rattle.mc_laws.proofs.Decoding.Worlds.{IsEvent, first_bytes}
use Rattle.mc_words.specs.declared.bad_input.BadInput.{BadInput}
use Rattle.mc_words.specs.declared.bad_input.InputFault.{InputFault}
use Rattle.mc_words.specs.declared.bad_input.InputFault.TheVariants as faults
use Rattle.mc_words.specs.declared.script_line.Before.{Before}
use Rattle.mc_words.specs.declared.script_line.ScriptEvent.{ScriptEvent}
use Rattle.mc_words.specs.declared.script_line.ScriptEvent.TheVariants.{Joined, Came}
use Rattle.mc_text.specs.Lines.{lines_of}
use Rattle.mc_words.specs.Script.{is_next, numbered, hex_of, bytes_event}
use Rattle.mc_words.specs.Script.{join_event, ticks_event, one_word, two_words, three_words}
use Rattle.mc_words.specs.Script.{words_event, some_event, line_event, after_event}
use Rattle.mc_words.specs.Script.{with_events, then_, at_first, lines_events, script_of}
use Rattle.mc_measure.specs.Settling.{owes, is_shut, takings, settled, settled_log}
use Rattle.mc_top.specs.ReplayText.{line_events}
use Rattle.mc_top.specs.ReplayText.{events_of}
use Rattle.mc_top.specs.Replaying.{line_ticks, ticks_of}

-- ---- one event

abbrev FitsEvent : ScriptEvent → Type 0
FitsEvent (Came k bytes) = IsBytes bytes
FitsEvent other = Unit {0}

abbrev EventFits : Before → ScriptEvent → Type 0
EventFits before e = FitsEvent e × (line_ticks e ≤ before.ticks_left)

-- a choice between an event that fits and a fault
choice : (P : ScriptEvent → Type 0) (b : Bool) (a c : Result ScriptEvent InputFault) → IfOk a P →
    IfOk c P → IfOk (cond b a c) P
choice P true a c pa pc = pa
choice P false a c pa pc = pc

join_fits : (before : Before) (k : ℕ) → IfOk (join_event before k) (EventFits before)
join_fits before k = choice (EventFits before) (is_next before.last k) (Ok (Joined k))
    (Err faults.Order) (tt, omega arith) tt

ticks_fit : (before : Before) (n : ℕ) → IfOk (ticks_event before n) (EventFits before)
ticks_fit before n = grind (arith, nat_tests)

numbered_fits : (P : ScriptEvent → Type 0)
    (o : Option ℕ) (event : ℕ → Result ScriptEvent InputFault) → ((n : ℕ) → IfOk (event n) P) →
    IfOk (numbered o event) P
numbered_fits P None event fits = tt
numbered_fits P (Some n) event fits = fits n

hex_fits : (digits bytes : List ℕ) → result_ok (decode_of digits) ≡ Some bytes → IsBytes bytes
hex_fits digits bytes is = step (decode_of digits) refl is
  where
    step : (r : Result (List ℕ) FromHexError) → decode_of digits ≡ r → result_ok r ≡ Some bytes →
        IsBytes bytes
    step (Ok there) read is =
        let P : List ℕ → Type 0 = λ t. IsBytes t in
        subst P (same there is) (decode_of-ok digits there read).3
      where
        same : (there : List ℕ) → Some there ≡ Some bytes → there ≡ bytes
        same there e = cc
    step (Err e) read is = absurd (none is)
      where
        none : {A : Type 0} {a : A} → None ≡ Some a → ⊥
        none e = cc

some_hex : (digits bytes : List ℕ) → hex_of digits ≡ Some bytes → IsBytes bytes
unfolding hex_of
some_hex [] bytes is = let clash : None ≡ Some bytes = is in cc
some_hex (b ∷ digits) bytes is = hex_fits (b ∷ digits) bytes is

bytes_fit : (before : Before) (k : ℕ) (digits : List ℕ) →
    IfOk (bytes_event k (hex_of digits)) (EventFits before)
bytes_fit before k digits = grind (arith, nat_tests, some_hex)

-- ---- lines

one_fits : (before : Before) (verb : List ℕ) → IfOk (one_word before verb) (EventFits before)
one_fits before verb = choice (EventFits before) (bytes_eq verb (codes "tick"))
    (ticks_event before 1) (Err faults.Word) (ticks_fit before 1) tt

two_fit : (before : Before) (verb word : List ℕ) →
    IfOk (two_words before verb word) (EventFits before)
two_fit before verb word = grind (arith, nat_tests)

three_fit : (before : Before) (verb word digits : List ℕ) →
    IfOk (three_words verb word digits) (EventFits before)
three_fit before verb word digits = grind (arith, nat_tests, choice, numbered_fits, bytes_fit)

words_fit : (before : Before) (words : List (List ℕ)) →
    IfOk (words_event before words) (EventFits before)
words_fit before words = grind (arith, nat_tests, one_fits, two_fit, three_fit)

abbrev LineFits : Before → Option ScriptEvent → Type 0
LineFits before o = IfSome o (EventFits before)

some_fits : (before : Before) (r : Result ScriptEvent InputFault) → IfOk r (EventFits before) →
    IfOk (some_event r) (LineFits before)
some_fits before (Ok e) fits = fits
some_fits before (Err kind) fits = tt

line_choice : (P : Option ScriptEvent → Type 0) (b : Bool)
    (a c : Result (Option ScriptEvent) InputFault) → IfOk a P → IfOk c P → IfOk (cond b a c) P
line_choice P true a c pa pc = pa
line_choice P false a c pa pc = pc

line_fits : (len size : ℕ) (before : Before) (line : List ℕ) →
    IfOk (line_event len size before line) (LineFits before)
unfolding line_event
line_fits len size before line = grind (arith, nat_tests, line_choice, some_fits, words_fit)

-- ---- all lines

abbrev pub AllFit : List ScriptEvent → Type 0
AllFit [] = Unit {0}
AllFit (e ∷ events) = FitsEvent e × AllFit events

pub record ScriptFits (most : ℕ) (events : List ScriptEvent) : Type 0 where
  pub fits : AllFit events
  pub few : ticks_of events ≤ most

few_more : (before : Before) (e : ScriptEvent) (n : ℕ) → line_ticks e ≤ before.ticks_left →
    n ≤ (after_event before e).ticks_left → line_ticks e + n ≤ before.ticks_left
few_more before e n few more = grind (arith, nat_tests)

with_fits : (before : Before) (e : ScriptEvent) (r : Result (List ScriptEvent) BadInput) →
    EventFits before e → IfOk r (ScriptFits (after_event before e).ticks_left) →
    IfOk (with_events (e ∷ []) r) (ScriptFits before.ticks_left)
with_fits before e (Err bad) fits more = tt
with_fits before e (Ok events) fits more =
    let all : ticks_of (e ∷ events) ≡ line_ticks e + ticks_of events =
    sum_by-cons line_ticks e events in
    let few = few_more before e (ticks_of events) fits.1 more.few in
    record { fits = (fits.0, more.fits); few = omega (arith, all, few) }

then_fits : (n : ℕ) (before : Before) (r : Result (Option ScriptEvent) InputFault)
    (later : Before → Result (List ScriptEvent) BadInput) → IfOk r (LineFits before) →
    ((next : Before) → IfOk (later next) (ScriptFits next.ticks_left)) →
    IfOk (then_ n before r later) (ScriptFits before.ticks_left)
then_fits n before r later fits more = grind (arith, nat_tests, with_fits)

lines_fit : (len count size : ℕ) (before : Before) (lines : List (List ℕ)) →
    IfOk (lines_events len count size before lines) (ScriptFits before.ticks_left)
unfolding lines_events
lines_fit len count size before [] = record { fits = tt; few = omega arith }
lines_fit len count size before (line ∷ lines) =
    then_fits (count + 1) before (line_event len (size + (length line + 1)) before line)
    (λ next. lines_events len (count + 1) (size + (length line + 1)) next lines)
    (line_fits len (size + (length line + 1)) before line)
    (λ next. lines_fit len (count + 1) (size + (length line + 1)) next lines)

pub script_fits : (text : List ℕ) (events : List ScriptEvent) → script_of text ≡ Ok events →
    ScriptFits 1000000000 events
unfolding script_of
script_fits text events is =
    let P : Result (List ScriptEvent) BadInput → Type 0 = λ r. IfOk r (ScriptFits 1000000000) in
    subst P is (lines_fit (length text) 0 0 at_first (lines_of text))

pub script_ticks : (text : List ℕ) (events : List ScriptEvent) → script_of text ≡ Ok events →
    ticks_of events ≤ 1000000000
script_ticks text events is = (script_fits text events is).few

-- ---- the bytes of a log

bytes_both : (e : Event) (events : List Event) → IsEvent e → AreBytes events →
    AreBytes (e ∷ events)
bytes_both (came k bytes) events first later = (first, later)
bytes_both other events first later = later

bytes_append : (xs ys : List Event) → AreBytes xs → AreBytes ys → AreBytes (xs ++ ys)
bytes_append [] ys a b = b
bytes_append (e ∷ xs) ys a b = grind (arith, nat_tests, bytes_append xs ys)

tooks_fit : (es : List (ℕ × Link)) →
    AreBytes (map (λ (e : ℕ × Link). took e.0 (length e.1.owed)) es)
tooks_fit [] = tt
tooks_fit (e ∷ es) = tooks_fit es

forgots_fit : (es : List (ℕ × Link)) → AreBytes (map (λ (e : ℕ × Link). forgot e.0) es)
forgots_fit [] = tt
forgots_fit (e ∷ es) = forgots_fit es

takings_fit : (w : World) → AreBytes (takings w)
unfolding takings
takings_fit w =
    let owing : List (ℕ × Link) = filter owes (entries w.links) in
    let shut : List (ℕ × Link) = filter is_shut (entries w.links) in
    bytes_append (map (λ (e : ℕ × Link). took e.0 (length e.1.owed)) owing)
    (map (λ (e : ℕ × Link). forgot e.0) shut) (tooks_fit owing) (forgots_fit shut)

pub log_fits : (w : World) (events : List Event) → AreBytes events → AreBytes (settled_log w events)
log_fits w [] fit = tt
log_fits w (e ∷ events) fit =
    let v : World = (step w e).world in
    let parts = first_bytes e events fit in
    bytes_append (e ∷ takings v) (settled_log (settled v) events)
    (bytes_both e (takings v) parts.0 (takings_fit v)) (log_fits (settled v) events parts.1)

ticks_bytes : (n : ℕ) → AreBytes (replicate n ticked)
ticks_bytes zero = tt
ticks_bytes (suc n) = ticks_bytes n

line_bytes : (e : ScriptEvent) → FitsEvent e → AreBytes (line_events e)
line_bytes e fits = grind (arith, nat_tests, ticks_bytes)

events_bytes : (events : List ScriptEvent) → AllFit events → AreBytes (events_of events)
events_bytes [] fits = tt
events_bytes (e ∷ events) fits = bytes_append (line_events e) (events_of events)
    (line_bytes e fits.0) (events_bytes events fits.1)

-- all that happens in a script are bytes
pub script_bytes : (w : World) (text : List ℕ) (events : List ScriptEvent) →
    script_of text ≡ Ok events → AreBytes (settled_log w (events_of events))
script_bytes w text events is =
    log_fits w (events_of events) (events_bytes events (script_fits text events is).fits)
