-- A text with too many bytes is told by its first ones, up to one past the most.
use Rattle.std.proofs.Common.{◌≡◌, ℕ, ◌+◌, true, false, List, [], ◌∷◌, ◌++◌}
use Rattle.std.proofs.Common.{length, Option, Some, None, Result, Ok, Err, refl}
use Rattle.std.proofs.Common.{arith}
use Rattle.std.proofs.lemmas.Bool.Decides.{nat_tests}
use Rattle.mc_words.specs.declared.bad_input.BadInput.{BadInput}
use Rattle.mc_words.specs.declared.bad_input.InputFault.{InputFault}
use Rattle.mc_words.specs.declared.bad_input.InputFault.TheVariants.{Long}
use Rattle.mc_words.specs.declared.script_line.Before.{Before}
use Rattle.mc_words.specs.declared.script_line.ScriptEvent.{ScriptEvent}
use Rattle.mc_text.specs.Lines.{line_bytes, text_max, goes_past}
use Rattle.mc_words.specs.Told.{Told}
use Rattle.mc_status.specs.StatusText.{Exchange, first_exchange, receives_line, receives_next}
use Rattle.mc_status.specs.StatusText.{told_after, lines_told, status_told}
use Rattle.mc_words.specs.Script.{line_event, with_events, then_, at_first}
use Rattle.mc_words.specs.Script.{lines_events}
use Rattle.mc_words.specs.Script.{script_of}
use Rattle.mc_words.proofs.Delivering.{IsTelling}
use Rattle.mc_top.proofs.TextFronts.{StopsAtLong, front_same, long_not_fine}

-- ---- what is told of the client's lines

told_same : (n : ℕ) (x : Exchange) (fault : Option InputFault) (f g : Exchange → Told) →
    ((y : Exchange) → f y ≡ g y) → told_after n x fault f ≡ told_after n x fault g
told_same n x (Some kind) f g same = refl
told_same n x None f g same = same x

-- a line without a fault hands on to the next
told_on : (n : ℕ) (x : Exchange) (fault : Option InputFault) (later : Exchange → Told) →
    (told_after n x fault later).fault ≡ None → (later x).fault ≡ None
told_on n x (Some kind) later e = absurd cc
told_on n x None later e = e

some_fault : (bad : BadInput) → ◌≡◌ {A = Option BadInput} (Some bad) None → ⊥
some_fault bad e = cc

abbrev IsFine : Told → Type 0
IsFine told = told.fault ≡ None

lines_stop : StopsAtLong {T = List ℕ} length lines_told IsFine
unfolding lines_told
lines_stop = record {
  stops = λ a b count size x line own rest own_rest past own_past. rw (past, own_past) refl;
  goes = λ a b count size x line rest own_rest within also same. rw (within, also)
      (told_same (count + 1) (receives_line x (line_bytes line))
      (receives_line x (line_bytes line)).fault
      (λ y. lines_told a (count + 1) (size + (length line + 1)) y rest)
      (λ y. lines_told b (count + 1) (size + (length line + 1)) y own_rest) same);
  long = λ a count size x line rest past fine.
      some_fault (record { at = count + 1; kind = Long }) (rw past at fine);
  on = λ a count size x line rest fine.
      let next = receives_next (length a) (size + (length line + 1)) x line in (
        next,
        told_on (count + 1) next next.fault
            (λ y. lines_told a (count + 1) (size + (length line + 1)) y rest) fine,
      );
}

told_front : (most : ℕ) (front more : List ℕ) → length front ≡ text_max + 1 →
    status_told most (front ++ more) ≡ status_told most front
unfolding status_told
told_front most front more is =
    front_same length lines_told IsFine lines_stop (front ++ more) front (first_exchange most)
    front more is refl refl

-- a text that is too long has a fault
long_faulty : (most : ℕ) (text : List ℕ) → length text ≡ text_max + 1 →
    (status_told most text).fault ≡ None → ⊥
unfolding status_told
long_faulty most text is fine =
    long_not_fine length lines_told IsFine lines_stop text (first_exchange most) text is refl fine

pub status_telling : (most : ℕ) → IsTelling (status_told most)
status_telling most = record { front = told_front most; long = long_faulty most }

-- ---- the events of a script's lines

then_same : (n : ℕ) (before : Before) (event : Result (Option ScriptEvent) InputFault)
    (f g : Before → Result (List ScriptEvent) BadInput) → ((next : Before) → f next ≡ g next) →
    then_ n before event f ≡ then_ n before event g
then_same n before event f g same = grind (arith, nat_tests)

event_past : (len size : ℕ) (before : Before) (line : List ℕ) → goes_past len size ≡ true →
    line_event len size before line ≡ Err Long
unfolding line_event
event_past len size before line past = rw past refl

event_within : (len other size : ℕ) (before : Before) (line : List ℕ) →
    goes_past len size ≡ false → goes_past other size ≡ false →
    line_event len size before line ≡ line_event other size before line
unfolding line_event
event_within len other size before line within also = rw (within, also) refl

-- what the lines behind a line come to, where all is well
record GoesOn (later : Before → Result (List ScriptEvent) BadInput) : Type 0 where
  next : Before
  events : List ScriptEvent
  is : later next ≡ Ok events

front_ok : (events all : List ScriptEvent) (r : Result (List ScriptEvent) BadInput) →
    with_events events r ≡ Ok all → (more : List ScriptEvent) × (r ≡ Ok more)
front_ok events all (Ok more) e = (more, refl)
front_ok events all (Err bad) e = absurd cc

then_on : (n : ℕ) (before : Before) (event : Result (Option ScriptEvent) InputFault)
    (later : Before → Result (List ScriptEvent) BadInput) (all : List ScriptEvent) →
    then_ n before event later ≡ Ok all → GoesOn later
then_on n before event later all e = grind (arith, nat_tests)

bad_or_ok : (bad : BadInput) (all : List ScriptEvent) →
    ◌≡◌ {A = Result (List ScriptEvent) BadInput} (Err bad) (Ok all) → ⊥
bad_or_ok bad all e = cc

abbrev AreEvents : Result (List ScriptEvent) BadInput → Type 0
AreEvents r = (events : List ScriptEvent) × (r ≡ Ok events)

abbrev itself : ℕ → ℕ
itself len = len

events_stop : StopsAtLong itself lines_events AreEvents
unfolding lines_events
events_stop = record {
  stops = λ a b count size before line own rest own_rest past own_past. rw (
    event_past a (size + (length line + 1)) before line past,
    event_past b (size + (length own + 1)) before own own_past,
  ) refl;
  goes = λ a b count size before line rest own_rest within also same.
      rw (event_within a b (size + (length line + 1)) before line within also)
      (then_same (count + 1) before (line_event b (size + (length line + 1)) before line)
      (λ next. lines_events a (count + 1) (size + (length line + 1)) next rest)
      (λ next. lines_events b (count + 1) (size + (length line + 1)) next own_rest) same);
  long = λ a count size before line rest past fine.
      let gone = event_past a (size + (length line + 1)) before line past in
      bad_or_ok (record { at = count + 1; kind = Long }) fine.0 (rw gone at fine.1);
  on = λ a count size before line rest fine.
      let on = then_on (count + 1) before (line_event a (size + (length line + 1)) before line)
      (λ next. lines_events a (count + 1) (size + (length line + 1)) next rest) fine.0 fine.1 in
      (on.next, (on.events, on.is));
}

pub script_front : (front more : List ℕ) → length front ≡ text_max + 1 →
    script_of (front ++ more) ≡ script_of front
unfolding script_of
script_front front more is =
    front_same itself lines_events AreEvents events_stop (length (front ++ more)) (length front)
    at_first front more is refl refl

-- a text that is too long is no script
pub long_no_script : (text : List ℕ) (events : List ScriptEvent) → length text ≡ text_max + 1 →
    script_of text ≡ Ok events → ⊥
unfolding script_of
long_no_script text events is e =
    long_not_fine itself lines_events AreEvents events_stop (length text) at_first text is refl
    (events, e)
