-- What the `sent` lines tell is what was taken.
use Rattle.std.proofs.Common.{◌≡◌, ℕ, zero, suc, true, false, cond, List, [], ◌∷◌, ◌++◌, length}
use Rattle.std.proofs.Common.{map, refl, sym, subst, ap, ◌∙◌, append_assoc, arith}
use Rattle.std.specs.Prelude.{replicate}
use Rattle.std.specs.List.{filter}
use Rattle.std.specs.FinMap.{entries, get-empty}
use Rattle.std.specs.Ordering.{nat_cmp}
use Rattle.std.proofs.lemmas.Bool.Decides.{nat_tests}
use Rattle.std.proofs.lemmas.Grind.{flat_map-append}
use Rattle.std.proofs.lemmas.List.{append-nil, take_all}
use Rattle.std.proofs.lemmas.List.Sums.{fold-append}
use Rattle.mc_model.specs.Step.{Event, ticked, took, forgot, step}
use Rattle.mc_model.specs.Minds.{Start}
use Rattle.mc_model.specs.Headline.{Headline}
use Rattle.mc_model.specs.Link.{Link}
use Rattle.mc_model.specs.Run.{history, lost, lost_at, owed_in, owed_of, taken, taken_at}
use Rattle.mc_model.specs.World.{World, new_world}
use Rattle.mc_events.proofs.Loops.{AreOnce}
use Rattle.mc_words.specs.declared.script_line.ScriptEvent.{ScriptEvent}
use Rattle.mc_words.specs.declared.script_line.ScriptEvent.TheVariants.{Joined, Came, Gone, Ticks}
use Rattle.mc_measure.specs.Settling.{owes}
use Rattle.mc_top.specs.ReplayText.{tells_sent, tells_shut, sent_for, sent_to, tellings}
use Rattle.mc_measure.specs.Settling.{takings, settled, settled_log}
use Rattle.mc_top.specs.ReplayText.{replay_tellings, events_of}
use Rattle.mc_top.specs.ReplayText.{IsToldTaken}
use Rattle.mc_measure.proofs.Taken.{took_other}
use Rattle.mc_measure.proofs.Takings.{AreAt, all_once, all_there, as_is, numbers, settled_none}
use Rattle.mc_measure.proofs.Takings.{still_at}

-- ---- one event

taken_more : (k : ℕ) (w : World) (xs ys : List Event) →
    taken k w (xs ++ ys) ≡ taken k w xs ++ taken k (history w xs) ys
taken_more k w [] ys = refl
taken_more k w (e ∷ xs) ys =
    grind (arith, nat_tests, append_assoc, taken_more k (step w e).world xs ys)

forgot_none : (k : ℕ) (w : World) (es : List (ℕ × Link)) →
    taken k w (map (λ (e : ℕ × Link). forgot e.0) es) ≡ []
forgot_none k w [] = refl
forgot_none k w (e ∷ es) = forgot_none k (step w (forgot e.0)).world es

shut_none : (k : ℕ) (es : List (ℕ × Link)) →
    sent_to k (map (λ (e : ℕ × Link). tells_shut e.0) es) ≡ []
shut_none k [] = refl
shut_none k (e ∷ es) = shut_none k es

-- what one connection took
took_one : (k : ℕ) (w : World) (e : ℕ × Link) → owed_in e.0 w ≡ e.1.owed →
    taken_at k w (took e.0 (length e.1.owed)) ≡ sent_for k (tells_sent e.0 e.1.owed)
took_one k w e owed =
    let all = take_all (length e.1.owed) e.1.owed (omega arith) in
    grind (arith, nat_tests, owed, all)

took_all : (k : ℕ) (w : World) (es : List (ℕ × Link)) → AreOnce (numbers es) → AreAt as_is w es →
    taken k w (map (λ (e : ℕ × Link). took e.0 (length e.1.owed)) (filter owes es))
    ≡ sent_to k (map (λ (e : ℕ × Link). tells_sent e.0 e.1.owed) (filter owes es))
took_all k w [] once there = refl
took_all k w (e ∷ es) once there =
    let v : World = (step w (took e.0 (length e.1.owed))).world in
    elim (owes e) as (λ b.
    taken k w (map (λ (e : ℕ × Link). took e.0 (length e.1.owed))
    (cond b (e ∷ filter owes es) (filter owes es)))
    ≡ sent_to k (map (λ (e : ℕ × Link). tells_sent e.0 e.1.owed)
    (cond b (e ∷ filter owes es) (filter owes es)))) [
      | true ↦ ap (λ (o : List ℕ). o ++ taken k v
          (map (λ (e : ℕ × Link). took e.0 (length e.1.owed)) (filter owes es)))
          (took_one k w e (ap owed_of there.0))
          ∙ ap (λ (o : List ℕ). sent_for k (tells_sent e.0 e.1.owed) ++ o)
          (took_all k v es once.1 (still_at as_is w v e.0 es
          (took_other w e.0 (length e.1.owed)) once.0 there.1))
      | false ↦ took_all k w es once.1 there.1
    ]

takings_are : (k : ℕ) (w : World) → taken k w (takings w) ≡ sent_to k (tellings w)
unfolding takings tellings
takings_are k w =
    let all = took_all k w (entries w.links) (all_once w) (all_there w) in
    rw (taken_more, forgot_none, all, flat_map-append, shut_none) refl

-- ---- all events

-- none of these takes anything
abbrev TakeNone : List Event → Type 0
TakeNone [] = Unit {0}
TakeNone (took k n ∷ events) = ⊥
TakeNone (e ∷ events) = TakeNone events

none_first : (k : ℕ) (w : World) (e : Event) (events : List Event) → TakeNone (e ∷ events) →
    taken_at k w e ≡ []
none_first k w (took j n) events none = absurd none
none_first k w other events none = refl

none_later : (e : Event) (events : List Event) → TakeNone (e ∷ events) → TakeNone events
none_later (took j n) events none = absurd none
none_later other events none = none

ticks_none : (n : ℕ) (events : List Event) → TakeNone events →
    TakeNone (replicate n ticked ++ events)
ticks_none zero events none = none
ticks_none (suc n) events none = ticks_none n events none

events_none : (events : List ScriptEvent) → TakeNone (events_of events)
events_none [] = tt
events_none (Joined k ∷ events) = events_none events
events_none (Came k bytes ∷ events) = events_none events
events_none (Gone k ∷ events) = events_none events
events_none (Ticks n ∷ events) = ticks_none n (events_of events) (events_none events)

log_taken : (k : ℕ) (w : World) (events : List Event) → TakeNone events →
    taken k w (settled_log w events) ≡ sent_to k (replay_tellings w events)
log_taken k w [] none = refl
log_taken k w (e ∷ events) none =
    let v : World = (step w e).world in
    let later = log_taken k (settled v) events (none_later e events none) in
    rw (
      none_first k w e events none,
      taken_more k v (takings v) (settled_log (settled v) events),
      takings_are,
      later,
      flat_map-append (sent_for k) (tellings v) (replay_tellings (settled v) events),
    ) refl

-- what the lines of a script tell
pub script_taken : (k : ℕ) (w : World) (events : List ScriptEvent) →
    taken k w (settled_log w (events_of events)) ≡ sent_to k (replay_tellings w (events_of events))
script_taken k w events = log_taken k w (events_of events) (events_none events)

-- ---- at the end nothing is owed

abbrev OwesNone : World → Type 0
OwesNone w = (k : ℕ) → owed_in k w ≡ []

log_none : (w : World) (events : List Event) → OwesNone w →
    OwesNone (history w (settled_log w events))
log_none w [] none = none
log_none w (e ∷ events) none =
    let v : World = (step w e).world in
    let P : World → Type 0 = λ u. OwesNone u in
    subst P (sym (fold-append _ v (takings v) (settled_log (settled v) events)))
    (log_none (settled v) events (settled_none v))

-- ---- nothing is lost

-- one that goes is owed nothing to lose
lost_none : (k : ℕ) (w : World) (e : Event) → owed_in k w ≡ [] → lost_at k w e ≡ []
lost_none k w e none = grind (arith, nat_tests, none)

lost_more : (k : ℕ) (w : World) (xs ys : List Event) →
    lost k w (xs ++ ys) ≡ lost k w xs ++ lost k (history w xs) ys
lost_more k w [] ys = refl
lost_more k w (e ∷ xs) ys =
    grind (arith, nat_tests, append_assoc, lost_more k (step w e).world xs ys)

-- taking and forgetting lose nothing
took_lost : (k : ℕ) (w : World) (es : List (ℕ × Link)) →
    lost k w (map (λ (e : ℕ × Link). took e.0 (length e.1.owed)) es) ≡ []
took_lost k w [] = refl
took_lost k w (e ∷ es) = took_lost k (step w (took e.0 (length e.1.owed))).world es

forgot_lost : (k : ℕ) (w : World) (es : List (ℕ × Link)) →
    lost k w (map (λ (e : ℕ × Link). forgot e.0) es) ≡ []
forgot_lost k w [] = refl
forgot_lost k w (e ∷ es) = forgot_lost k (step w (forgot e.0)).world es

takings_lost : (k : ℕ) (w : World) → lost k w (takings w) ≡ []
unfolding takings
takings_lost k w = rw (lost_more, took_lost, forgot_lost) refl

log_lost : (k : ℕ) (w : World) (events : List Event) → OwesNone w →
    lost k w (settled_log w events) ≡ []
log_lost k w [] none = refl
log_lost k w (e ∷ events) none =
    let v : World = (step w e).world in
    rw (
      lost_none k w e (none k),
      lost_more k v (takings v) (settled_log (settled v) events),
      takings_lost,
      log_lost k (settled v) events (settled_none v),
    ) refl

-- ---- what is told is what was taken

pub told_taken : (start : Start) (events : List ScriptEvent) (k : ℕ) →
    Headline start (settled_log (new_world start) (events_of events)) →
    IsToldTaken k (new_world start) (events_of events)
told_taken start events k promise =
    let w : World = new_world start in
    let log : List Event = settled_log w (events_of events) in
    let is = script_taken k w events in
    let p = promise.promised log [] k (sym (append-nil log)) in
    let begins : OwesNone w = λ j. ap owed_of (get-empty {X = Link} nat_cmp j) in
    let none = log_none w (events_of events) begins k in
    let kept = log_lost k w (events_of events) begins in
    record {
      is_taken = sym is;
      begun = (p.begun.0, p.begun.1 ∙ ap (λ (t : List ℕ). t ++ p.begun.0) is);
      whole = λ fine.
          rw (kept, none, append-nil (taken k w log)) at (p.whole fine) ∙ is;
    }
