-- A line of a script is too long exactly where it holds the first byte too many.
use Rattle.std.proofs.Common.{◌≡◌, ◌≢◌, ℕ, suc, ◌+◌, ◌-◌, ◌<◌, ◌≤◌, ◌⊎◌, inl, inr, Bool, true}
use Rattle.std.proofs.Common.{false, cond, List, [], ◌∷◌, ◌++◌, length, take, Option, Some, None}
use Rattle.std.proofs.Common.{Result, Ok, Err, refl, subst, ap, ◌∙◌, append_assoc, arith}
use Rattle.std.proofs.Common.{add-one}
use Rattle.std.specs.Prelude.{nat_le}
use Rattle.std.proofs.lemmas.List.{length-append}
use Rattle.std.proofs.lemmas.Bool.Decides.{nat_tests}
use Rattle.mc_words.specs.declared.bad_input.BadInput.{BadInput}
use Rattle.mc_words.specs.declared.bad_input.InputFault.{InputFault}
use Rattle.mc_words.specs.declared.bad_input.InputFault.TheVariants as faults
use Rattle.mc_words.specs.declared.script_line.Before.{Before}
use Rattle.mc_words.specs.declared.script_line.ScriptEvent.{ScriptEvent}
use Rattle.mc_words.specs.declared.script_line.ScriptEvent.TheVariants.{Joined, Came, Ticks}
use Rattle.mc_text.specs.Lines.{lines_of, text_max, goes_past, size_of, HoldsByte}
use Rattle.mc_words.specs.Script.{is_next, numbered, join_event}
use Rattle.mc_words.specs.Script.{bytes_event, ticks_event, words_event, some_event}
use Rattle.mc_words.specs.Script.{line_event, after_event, with_events, then_, at_first}
use Rattle.mc_words.specs.Script.{lines_events}
use Rattle.mc_words.specs.Script.{script_of}

-- ---- no other line is too long

record NotLong {A : Type 0} (r : Result A InputFault) : Type 0 where
  never : r ≢ Err faults.Long

ok_not : {A : Type 0} (x : A) → NotLong {A = A} (Ok x)
ok_not x = record { never = λ e. cc }

word_not : {A : Type 0} → NotLong {A = A} (Err faults.Word)
word_not = record { never = λ e. cc }

number_not : {A : Type 0} → NotLong {A = A} (Err faults.Number)
number_not = record { never = λ e. cc }

hex_not : {A : Type 0} → NotLong {A = A} (Err faults.Hex)
hex_not = record { never = λ e. cc }

order_not : {A : Type 0} → NotLong {A = A} (Err faults.Order)
order_not = record { never = λ e. cc }

cond_not : {A : Type 0} (b : Bool) (r s : Result A InputFault) → NotLong r → NotLong s →
    NotLong (cond b r s)
cond_not true r s f g = f
cond_not false r s f g = g

numbered_not : (number : Option ℕ) (event : ℕ → Result ScriptEvent InputFault) →
    ((n : ℕ) → NotLong (event n)) → NotLong (numbered number event)
numbered_not None event f = number_not
numbered_not (Some n) event f = f n

bytes_not : (k : ℕ) (bytes : Option (List ℕ)) → NotLong (bytes_event k bytes)
bytes_not k None = hex_not
bytes_not k (Some bytes) = ok_not (Came k bytes)

join_not : (before : Before) (k : ℕ) → NotLong (join_event before k)
join_not before k = cond_not (is_next before.last k) (Ok (Joined k)) (Err faults.Order)
    (ok_not (Joined k)) order_not

ticks_not : (before : Before) (n : ℕ) → NotLong (ticks_event before n)
ticks_not before n = cond_not (nat_le n before.ticks_left) (Ok (Ticks n)) (Err faults.Number)
    (ok_not (Ticks n)) number_not

words_not : (before : Before) (words : List (List ℕ)) → NotLong (words_event before words)
words_not before words = grind (arith, nat_tests)

some_not : (r : Result ScriptEvent InputFault) → NotLong r → NotLong (some_event r)
some_not r f = grind (arith, nat_tests)

-- what a line comes to whose bytes are not too many
line_not : (len size : ℕ) (before : Before) (line : List ℕ) → goes_past len size ≡ false →
    NotLong (line_event len size before line)
unfolding line_event
line_not len size before line within = grind (arith, nat_tests)

-- ---- bytes

past_is : (len size : ℕ) → goes_past len size ≡ true → (text_max < len) × (text_max < size)
past_is len size e = grind (arith, nat_tests)

within_is : (len size : ℕ) → goes_past len size ≡ false → (len ≤ text_max) ⊎ (size ≤ text_max)
within_is len size e = grind (arith, nat_tests)

-- the first so many lines hold at most the most bytes, and one more holds more
pub record GoesPast (len : ℕ) (lines : List (List ℕ)) (n : ℕ) : Type 0 where
  pub long : text_max < len
  pub after : size_of (take (n - 1) lines) ≤ text_max
  pub within : text_max < size_of (take n lines)

first_lines : (done lines : List (List ℕ)) → take (length done) (done ++ lines) ≡ done
first_lines [] lines = refl
first_lines (line ∷ done) lines = ap (λ (t : List (List ℕ)). line ∷ t) (first_lines done lines)

one_more : (done lines : List (List ℕ)) (line : List ℕ) →
    size_of (take (suc (length done)) (done ++ line ∷ lines)) ≡ size_of done + (length line + 1)
one_more [] lines line = omega arith
one_more (first ∷ done) lines line = let rest = one_more done lines line in omega (arith, rest)

size_more : (done : List (List ℕ)) (line : List ℕ) →
    size_of (done ++ line ∷ []) ≡ size_of done + (length line + 1)
size_more [] line = omega arith
size_more (first ∷ done) line = let rest = size_more done line in omega (arith, rest)

shown : (len : ℕ) (done lines : List (List ℕ)) (line : List ℕ) (n : ℕ) →
    (len ≤ text_max) ⊎ (size_of done ≤ text_max) →
    text_max < len → text_max < size_of done + (length line + 1) → length done + 1 ≡ n →
    GoesPast len (done ++ line ∷ lines) n
shown len done lines line n (inl short) long past is = absurd (omega (arith, short, long))
shown len done lines line n (inr small) long past is =
    let P : ℕ → Type 0 = λ m. GoesPast len (done ++ line ∷ lines) m in
    let front : length done + 1 - 1 ≡ length done = omega arith in
    let same : size_of (take (length done + 1 - 1) (done ++ line ∷ lines)) ≡ size_of done =
    rw front (ap size_of (first_lines done (line ∷ lines))) in
    let more : size_of (take (length done + 1) (done ++ line ∷ lines)) ≡ size_of done
    + (length line + 1) = rw add-one (one_more done lines line) in
    subst P is (record {
      long = long;
      after = omega (arith, same, small);
      within = omega (arith, more, past);
    })

-- ---- lines

front_fault : (events : List ScriptEvent) (r : Result (List ScriptEvent) BadInput)
    (bad : BadInput) → with_events events r ≡ Err bad → r ≡ Err bad
front_fault events (Ok more) bad e = absurd cc
front_fault events (Err other) bad e = cc

fault_is : (a b : BadInput) → ◌≡◌ {A = Result (List ScriptEvent) BadInput} (Err a) (Err b) → a ≡ b
fault_is a b e = cc

line_long : (len size : ℕ) (before : Before) (line : List ℕ) → goes_past len size ≡ true →
    line_event len size before line ≡ Err faults.Long
unfolding line_event
line_long len size before line past = rw past refl

ok_or_err : (event : Option ScriptEvent) (kind : InputFault) →
    ◌≡◌ {A = Result (Option ScriptEvent) InputFault} (Ok event) (Err kind) → ⊥
ok_or_err event kind e = cc

-- a line that was read has bytes that are not too many
read_within : (len size : ℕ) (before : Before) (line : List ℕ) (event : Option ScriptEvent) →
    line_event len size before line ≡ Ok event → goes_past len size ≡ false
read_within len size before line event e = grind (arith, nat_tests, ok_or_err, line_long)

-- and one that is too long has too many
fault_past : (len size : ℕ) (before : Before) (line : List ℕ) →
    line_event len size before line ≡ Err faults.Long → goes_past len size ≡ true
fault_past len size before line e = grind (arith, nat_tests, line_not)

-- one line more, given what holds of the lines behind it
long_step : (len count size : ℕ) (before : Before) (done lines : List (List ℕ))
    (line : List ℕ) (n : ℕ) (later : Before → Result (List ScriptEvent) BadInput)
    (r : Result (Option ScriptEvent) InputFault) →
    length done ≡ count → size_of done ≡ size → (len ≤ text_max) ⊎ (size_of done ≤ text_max) →
    line_event len (size + (length line + 1)) before line ≡ r →
    then_ (count + 1) before r later ≡ Err (record { at = n; kind = faults.Long }) →
    ((next : Before) → goes_past len (size + (length line + 1)) ≡ false → later next
    ≡ Err (record { at = n; kind = faults.Long }) → GoesPast len (done ++ line ∷ lines) n) →
    GoesPast len (done ++ line ∷ lines) n
long_step len count size before done lines line n later (Ok None) counted sized within is e more =
    more before (read_within len _ before line None is) e
long_step len count size before done lines line n later
    (Ok (Some event)) counted sized within is e more = more (after_event before event)
    (read_within len _ before line (Some event) is) (front_fault (event ∷ []) _ _ e)
long_step len count size before done lines line n later (Err kind) counted sized within is e more =
    let same = fault_is (record { at = count + 1; kind = kind })
    (record { at = n; kind = faults.Long }) e in
    let number : count + 1 ≡ n = ap (λ (b : BadInput). b.at) same in
    let long : kind ≡ faults.Long = ap (λ (b : BadInput). b.kind) same in
    let past = past_is len (size + (length line + 1))
    (fault_past len _ before line (is ∙ ap (λ (k : InputFault). Err k) long)) in
    let over = past.1 in
    shown len done lines line n within past.0
    (omega (arith, over, sized)) (omega (arith, number, counted))

lines_long : (len count size : ℕ) (before : Before) (done lines : List (List ℕ)) (n : ℕ) →
    length done ≡ count → size_of done ≡ size → (len ≤ text_max) ⊎ (size_of done ≤ text_max) →
    lines_events len count size before lines ≡ Err (record { at = n; kind = faults.Long }) →
    GoesPast len (done ++ lines) n
unfolding lines_events
lines_long len count size before done [] n counted sized within e = absurd cc
lines_long len count size before done (line ∷ lines) n counted sized within e =
    let grown : size_of (done ++ line ∷ []) ≡ size + (length line + 1) =
    size_more done line ∙ ap (λ (m : ℕ). m + (length line + 1)) sized in
    long_step len count size before done lines line n _
    (line_event len (size + (length line + 1)) before line) counted sized within refl e
    (λ next small e'.
    let P : List (List ℕ) → Type 0 = λ t. GoesPast len t n in
    subst P (append_assoc done (line ∷ []) lines) (lines_long len
    (count + 1) (size + (length line + 1)) next (done ++ line ∷ []) lines n (omega (
      arith,
      counted,
      length-append done (line ∷ []),
    )) grown (rw grown (within_is len _ small)) e'))

-- the line that is too long holds the first byte too many
pub long_holds : (text : List ℕ) (n : ℕ) →
    script_of text ≡ Err (record { at = n; kind = faults.Long }) → HoldsByte text n (text_max + 1)
unfolding script_of
long_holds text n e =
    let past = lines_long (length text) 0 0 at_first [] (lines_of text) n refl refl
    (inr (omega arith)) e in
    let after = past.after in
    let within = past.within in
    record { after = omega (arith, after); within = omega (arith, within) }
