-- A text that comes line by line, by what is told of it whole.
use Rattle.std.proofs.Common.{◌≡◌, ℕ, ◌+◌, ◌-◌, ◌<◌, ◌≤◌, Bool, true, false, cond, List, []}
use Rattle.std.proofs.Common.{◌∷◌, ◌++◌, length, take, drop, get_or, refl, sym, subst, ap, ◌∙◌}
use Rattle.std.proofs.Common.{arith, append_assoc}
use Rattle.std.specs.Prelude.{Option, Some, None, is_some, ◌==◌, count_by}
use Rattle.std.specs.List.{fold}
use Rattle.std.proofs.lemmas.List.Sums.{fold-append, sum_by_push}
use Rattle.std.proofs.lemmas.List.{append-nil, get_or_at, length-append, take_at}
use Rattle.std.proofs.lemmas.List.{take-append-drop}
use Rattle.std.proofs.lemmas.List.Splits.{length-slice_split}
use Rattle.std.proofs.lemmas.Bool.Decides.{nat_tests}
use Rattle.mc_model.specs.Run.{to}
use Rattle.mc_model.specs.Step.{came, step}
use Rattle.mc_events.specs.Served.{ServerValue}
use Rattle.mc_wire.specs.Stream.{Grows}
use Rattle.mc_words.specs.declared.bad_input.InputFault.{InputFault}
use Rattle.mc_words.specs.declared.bad_input.InputFault.TheVariants as faults
use Rattle.mc_text.specs.Lines.{PutsLine, goes_past, is_line_end, line_bytes, lines_of}
use Rattle.mc_text.specs.Passes.{Passes, SendsPart}
use Rattle.mc_words.specs.Told.{Told}
use Rattle.mc_text.proofs.Growing.{part_of}
use Rattle.mc_text.proofs.Passing.{breaks_here}
use Rattle.mc_text.proofs.Reading.{left_lines, left_size, CutsNext}
use Rattle.mc_status.specs.StatusText.{Exchange, first_exchange, receives_next, ends_inside}
use Rattle.mc_status.specs.StatusText.{last_byte_line, told_at_end, told_after, lines_told}
use Rattle.mc_status.specs.StatusText.{goes_on, receives, receives_line, sent_lines, status_told}
use Rattle.mc_status.specs.Playing.{Meets, Receives}

-- ---- what is written stays

-- some bytes stand before others
abbrev pub Begins : List ℕ → List ℕ → Type 0
Begins front all = (more : List ℕ) × (all ≡ front ++ more)

begins_on : (a b c : List ℕ) → Begins a b → Begins b c → Begins a c
begins_on a b c f g = (f.0 ++ g.0, g.1 ∙ ap (λ (t : List ℕ). t ++ g.0) f.1 ∙ append_assoc a f.0 g.0)

pub received_begins : (x : Exchange) (bytes : List ℕ) → Begins x.text (fold receives x bytes).text
received_begins x [] = ([], sym (append-nil x.text))
received_begins x (b ∷ bytes) = begins_on x.text (receives x b).text
    (fold receives (receives x b) bytes).text
    (one (is_some x.fault)) (received_begins (receives x b) bytes)
  where
    one : (t : Bool) → Begins x.text (cond t x (goes_on x (step x.world (came 0 (b ∷ []))))).text
    one true = ([], sym (append-nil x.text))
    one false = (sent_lines (to 0 (step x.world (came 0 (b ∷ []))).out), refl)

-- the text of a line begins with what was written before it
pub next_begins : (len size : ℕ) (x : Exchange) (line : List ℕ) →
    Begins x.text (receives_next len size x line).text
next_begins len size x line = cases (goes_past len size) (line_bytes line)
  where
    cases : (past : Bool) (bytes : Option (List ℕ)) →
        Begins x.text (cond past (record x { fault = Some faults.Long })
        (receives_line x bytes)).text
    cases true bytes = ([], sym (append-nil x.text))
    cases false None = ([], sym (append-nil x.text))
    cases false (Some bytes) = received_begins x bytes

-- some first part of a text is one of what begins with it
pub part_begins : (start held : Option (List ℕ)) (some all : List ℕ) → SendsPart start held some →
    Begins some all → SendsPart start held all
part_begins start held some all part begins =
    let p = part_of part.0 some begins.0 in (
      p.0,
      subst (λ (t : List ℕ). Grows start held t)
          (sym (ap (take p.0) begins.1 ∙ p.1)) part.1,
    )

-- what was written and what waits is a text, of which some first part was written
pub passes_part : (start held : Option (List ℕ)) (text lines : List ℕ) →
    Passes start held [] text lines [] → SendsPart start held text
passes_part start held text lines p =
    let b = breaks_here start held [] text lines [] p in (b.len, b.wrote)

-- ---- the bytes of a line, piece by piece

pub fold_parts : (x : Exchange) (done rest line : List ℕ) → line ≡ done ++ rest →
    fold receives x line ≡ fold receives (fold receives x done) rest
fold_parts x done rest line parts = ap (fold receives x) parts ∙ fold-append receives x done rest

pub parts_next : (done rest line piece after : List ℕ) (count : ℕ) → line ≡ done ++ rest →
    piece ≡ take count rest → after ≡ drop count rest → line ≡ (done ++ piece) ++ after
parts_next done rest line piece after count parts front back =
    grind (arith, nat_tests, done, take-append-drop, append_assoc)

-- what was written of what some bytes come to is some first part of what all come to
pub part_all : (start held : Option (List ℕ)) (x : Exchange) (done rest line : List ℕ) →
    line ≡ done ++ rest → SendsPart start held (fold receives x done).text →
    SendsPart start held (fold receives x line).text
part_all start held x done rest line parts part =
    let begins = received_begins (fold receives x done) rest in
    part_begins start held (fold receives x done).text (fold receives x line).text part
    (begins.0, ap (λ (y : Exchange). y.text) (fold_parts x done rest line parts) ∙ begins.1)

-- ---- a line

pub next_long : (len size : ℕ) (x : Exchange) (line : List ℕ) (past : Bool) →
    past ≡ goes_past len size → past ≡ true →
    receives_next len size x line ≡ record x { fault = Some faults.Long }
next_long len size x line past is long = rw (sym is ∙ long) refl

-- a line that is no hex
pub next_not_hex : (len size : ℕ) (x : Exchange) (line old new : List ℕ) (past hex : Bool) →
    past ≡ goes_past len size → past ≡ false → hex ≡ false →
    PutsLine (line_bytes line) old new hex →
    receives_next len size x line ≡ record x { fault = Some faults.Hex }
next_not_hex len size x line old new past hex is short no_hex puts = grind (arith, nat_tests)

-- a line of hex
pub next_hex : (len size : ℕ) (x : Exchange) (line old new : List ℕ) (past hex : Bool) →
    past ≡ goes_past len size → past ≡ false → old ≡ [] → hex ≡ true →
    PutsLine (line_bytes line) old new hex → receives_next len size x line ≡ fold receives x new
next_hex len size x line old new past hex is short none yes_hex puts = grind (arith, nat_tests)

-- a line has a fault of its own
pub receives_fault : (most : ℕ) (start held : Option (List ℕ)) (server : ServerValue)
    (lines : List ℕ) (x y : Exchange) (kind : InputFault) →
    Meets most start held server lines x → y ≡ record x { fault = Some kind } →
    Receives most start held server lines (Some kind) y
receives_fault most start held server lines x y kind m is =
    subst (λ (z : Exchange). Receives most start held server lines (Some kind) z) (sym is) (record {
      fault = refl;
      passes = m.passes;
      meets = λ none. absurd (let e = none in cc);
    })

-- ---- what is told of lines

lines_next : (input : List ℕ) (count size : ℕ) (x : Exchange) (line : List ℕ)
    (lines left : List (List ℕ)) → left ≡ line ∷ lines →
    lines_told input count size x left ≡ told_after (count + 1)
    (receives_next (length input) (size + (length line + 1)) x line)
    (receives_next (length input) (size + (length line + 1)) x line).fault
    (λ y. lines_told input (count + 1) (size + (length line + 1)) y lines)
unfolding lines_told
lines_next input count size x line lines left is = rw is refl

-- the text that is told begins with what was written before
after_begins : (n : ℕ) (x : Exchange) (fault : Option InputFault) (later : Exchange → Told) →
    ((y : Exchange) → Begins y.text (later y).text) →
    Begins x.text (told_after n x fault later).text
after_begins n x (Some kind) later begins = ([], sym (append-nil x.text))
after_begins n x None later begins = begins x

lines_begin : (input : List ℕ) (count size : ℕ) (x : Exchange) (lines : List (List ℕ)) →
    Begins x.text (lines_told input count size x lines).text
unfolding lines_told
lines_begin input count size x [] = ([], sym (append-nil x.text))
lines_begin input count size x (line ∷ lines) =
    let next = receives_next (length input) (size + (length line + 1)) x line in
    begins_on x.text next.text _ (next_begins (length input) (size + (length line + 1)) x line)
    (after_begins (count + 1) next next.fault
    (λ y. lines_told input (count + 1) (size + (length line + 1)) y lines)
    (λ y. lines_begin input (count + 1) (size + (length line + 1)) y lines))

-- ---- the first lines of a text, so many, were received

pub record HasTold (most : ℕ) (input : List ℕ) (start held : Option (List ℕ)) (count size : ℕ)
    (rest : Option (List ℕ)) (server : ServerValue) (lines : List ℕ) : Type 0 where
  pub total : size + left_size rest ≡ length input + 1
  pub few : count ≤ size
  pub counted : count + length (left_lines rest) ≡ length (lines_of input)
  pub exchange : Exchange
  pub meets : Meets most start held server lines exchange
  pub so_far : status_told most input ≡ lines_told input count size exchange (left_lines rest)

-- nothing was received yet
pub told_start : (most : ℕ) (input : List ℕ) (start : Option (List ℕ)) (server : ServerValue)
    (lines : List ℕ) → Meets most start start server lines (first_exchange most) →
    HasTold most input start start 0 0 (Some input) server lines
unfolding status_told
told_start most input start server lines m = record {
  total = omega arith;
  few = omega arith;
  counted = omega arith;
  exchange = first_exchange most;
  meets = m;
  so_far = refl;
}

-- the next line came
module _ (most : ℕ) (input left line : List ℕ) (start middle held : Option (List ℕ))
    (count size : ℕ) (after : Option (List ℕ)) (old new : ServerValue) (waits lines : List ℕ)
    (h : HasTold most input start middle count size (Some left) old waits)
    (cut : CutsNext left line after) where
  abbrev next : Exchange
  next = receives_next (length input) (size + (length line + 1)) h.exchange line

  abbrev later : Exchange → Told
  later y = lines_told input (count + 1) (size + (length line + 1)) y (left_lines after)

  told_as : status_told most input ≡ told_after (count + 1) next next.fault later
  told_as = h.so_far
      ∙ lines_next input count size h.exchange line (left_lines after) (lines_of left) cut.lines

  told_by : (o : Option InputFault) → next.fault ≡ o →
      status_told most input ≡ told_after (count + 1) next o later
  told_by o is =
      told_as ∙ ap (λ (f : Option InputFault). told_after (count + 1) next f later) is

  -- and nothing is wrong with it
  pub told_next : (fault : Option InputFault) → ((x : Exchange) →
      Meets most start middle old waits x → Receives most start held new lines fault
      (receives_next (length input) (size + (length line + 1)) x line)) → fault ≡ None →
      HasTold most input start held (count + 1) (size + (length line + 1)) after new lines
  told_next fault receives fine =
      let total = h.total in
      let few = h.few in
      let counted = h.counted in
      let sized = cut.size in
      let all = ap length cut.lines in
      let r = receives h.exchange h.meets in
      record {
        total = omega (arith, total, sized);
        few = omega (arith, few);
        counted = omega (arith, counted, all);
        exchange = next;
        meets = r.meets fine;
        so_far = told_by None (sym r.fault ∙ fine);
      }

  -- it has a fault, the first of the text
  pub told_fault : (fault : Option InputFault) (kind : InputFault) → ((x : Exchange) →
      Meets most start middle old waits x → Receives most start held new lines fault
      (receives_next (length input) (size + (length line + 1)) x line)) → fault ≡ Some kind →
      Passes start held [] (status_told most input).text lines []
      × (Some (record { at = count + 1; kind = kind }) ≡ (status_told most input).fault)
  told_fault fault kind receives is =
      let r = receives h.exchange h.meets in
      let told = told_by (Some kind) (sym r.fault ∙ is) in (
        subst (λ (text : List ℕ). Passes start held [] text lines [])
            (sym (ap (λ (t : Told). t.text) told)) r.passes,
        sym (ap (λ (t : Told). t.fault) told),
      )

  -- it was received in part
  pub told_part : ((x : Exchange) → Meets most start middle old waits x →
      SendsPart start held
      (receives_next (length input) (size + (length line + 1)) x line).text) →
      SendsPart start held (status_told most input).text
  told_part part =
      let begins = after_begins (count + 1) next next.fault later
      (λ y. lines_begin input (count + 1) (size + (length line + 1)) y (left_lines after)) in
      part_begins start held next.text (status_told most input).text (part h.exchange h.meets)
      (begins.0, ap (λ (t : Told). t.text) told_as ∙ begins.1)

-- no line is left
module _ (most : ℕ) (input : List ℕ) (start held : Option (List ℕ)) (count size : ℕ)
    (server : ServerValue) (lines : List ℕ)
    (h : HasTold most input start held count size None server lines) (inside : Bool)
    (is : (x : Exchange) → Meets most start held server lines x → inside ≡ ends_inside x.world)
  where
    at_end : status_told most input ≡ told_at_end input h.exchange
    unfolding lines_told
    at_end = h.so_far

    end_passes : Passes start held [] (status_told most input).text lines []
    end_passes = subst (λ (text : List ℕ). Passes start held [] text lines [])
        (sym (ap (λ (t : Told). t.text) at_end)) h.meets.passes

    end_fault : (b : Bool) → inside ≡ b → (status_told most input).fault
        ≡ cond b (Some (record { at = last_byte_line input; kind = faults.Cut })) None
    end_fault b at = ap (λ (t : Told). t.fault) at_end ∙ ap (λ (b : Bool). cond b
        (Some (record { at = last_byte_line input; kind = faults.Cut })) None)
        (sym (is h.exchange h.meets) ∙ at)

    pub told_done : inside ≡ false →
        Passes start held [] (status_told most input).text lines []
        × (None ≡ (status_told most input).fault)
    told_done outside = (end_passes, sym (end_fault false outside))

    pub told_cut : (line : ℕ) → inside ≡ true →
        (count ≡ length (lines_of input) → line ≡ last_byte_line input) →
        Passes start held [] (status_told most input).text lines []
        × (Some (record { at = line; kind = faults.Cut }) ≡ (status_told most input).fault)
    told_cut line within last = let counted = h.counted in (
      end_passes,
      ap (λ (n : ℕ). Some (record { at = n; kind = faults.Cut })) (last (omega (arith, counted)))
          ∙ sym (end_fault true within),
    )

-- what is not there is none
pub no_fault_left : (fault : Option InputFault) → ((kind : InputFault) → fault ≡ Some kind → ⊥) →
    fault ≡ None
no_fault_left None not_some = refl
no_fault_left (Some kind) not_some = absurd (not_some kind refl)

-- ---- the line of the last byte

lines_count : (text : List ℕ) → length (lines_of text) ≡ count_by is_line_end text + 1
lines_count text = length-slice_split is_line_end text

-- the last element of a list
last_of : (xs : List ℕ) → 0 < length xs →
    (front : List ℕ) × (last : ℕ) × (xs ≡ front ++ last ∷ [])
last_of [] some = absurd (omega (arith, some))
last_of (x ∷ []) some = ([], x, refl)
last_of (x ∷ y ∷ xs) some = let l = last_of (y ∷ xs) (omega arith) in
    (x ∷ l.0, l.1, ap (λ (t : List ℕ). x ∷ t) l.2)

pub last_line_is : (text : List ℕ) (count : ℕ) (last : Bool) →
    last ≡ (get_or text (length text - 1) 0 == 10) → count ≡ length (lines_of text) →
    cond last (count - 1) count ≡ last_byte_line text
last_line_is [] count true is counted = absurd cc
last_line_is [] count false is counted = counted
last_line_is (x ∷ text) count last is counted =
    let l = last_of (x ∷ text) (omega arith) in
    let P : List ℕ → Type 0 = λ t. last ≡ (get_or t (length t - 1) 0 == 10) →
    count ≡ length (lines_of t) → cond last (count - 1) count ≡ last_byte_line t in
    subst P (sym l.2) (behind l.0 l.1 count last) is counted
  where
    counts : (front : List ℕ) (y count : ℕ) (last : Bool) → last ≡ (y == 10) →
        count ≡ length (lines_of (front ++ y ∷ [])) →
        cond last (count - 1) count ≡ length (lines_of front)
    counts front y count true is counted =
        let more : count_by is_line_end (front ++ y ∷ []) ≡ count_by is_line_end front + 1 =
        sum_by_push (λ (b : ℕ). cond (is_line_end b) 1 0) front y
        ∙ ap (λ (b : Bool). count_by is_line_end front + cond {A = ℕ} b 1 0) (sym is) in
        omega (arith, counted, more, lines_count (front ++ y ∷ []), lines_count front)
    counts front y count false is counted =
        let more : count_by is_line_end (front ++ y ∷ []) ≡ count_by is_line_end front + 0 =
        sum_by_push (λ (b : ℕ). cond (is_line_end b) 1 0) front y
        ∙ ap (λ (b : Bool). count_by is_line_end front + cond {A = ℕ} b 1 0) (sym is) in
        omega (arith, counted, more, lines_count (front ++ y ∷ []), lines_count front)

    behind : (front : List ℕ) (y count : ℕ) (last : Bool) →
        last ≡ (get_or (front ++ y ∷ []) (length (front ++ y ∷ []) - 1) 0 == 10) →
        count ≡ length (lines_of (front ++ y ∷ [])) →
        cond last (count - 1) count ≡ last_byte_line (front ++ y ∷ [])
    behind front y count last is counted =
        let len : length (front ++ y ∷ []) - 1 ≡ length front =
        omega (arith, length-append front (y ∷ [])) in
        let here : get_or (front ++ y ∷ []) (length (front ++ y ∷ []) - 1) 0 ≡ y =
        ap (λ (n : ℕ). get_or (front ++ y ∷ []) n 0) len
        ∙ get_or_at front y [] 0 (length front) refl in
        let cut : take (length (front ++ y ∷ []) - 1) (front ++ y ∷ []) ≡ front =
        ap (λ (n : ℕ). take n (front ++ y ∷ [])) len
        ∙ take_at front (y ∷ []) (length front) refl in
        counts front y count last (is ∙ ap (λ (n : ℕ). n == 10) here) counted
        ∙ ap (λ (t : List ℕ). length (lines_of t)) (sym cut)
