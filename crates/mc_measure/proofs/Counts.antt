-- What is taken in a load is what its clients take.
use Rattle.std.proofs.Common.{◌≡◌, ◌≢◌, ℕ, zero, suc, ◌+◌, ◌<◌, ◌≤◌, Bool, true, false, cond, List}
use Rattle.std.proofs.Common.{[], ◌∷◌, ◌++◌, length, map, refl, sym, subst, ap, ◌∙◌, inl, inr}
use Rattle.std.proofs.Common.{append_assoc, arith}
use Rattle.std.specs.Prelude.{nat_lt, Option, Some, None}
use Rattle.std.specs.List.{filter, flat_map, range_with_len, sum_by}
use Rattle.std.specs.FinMap.{entries, get}
use Rattle.std.proofs.lemmas.Bool.{cases_eq}
use Rattle.std.proofs.lemmas.Bool.Decides.{nat_tests}
use Rattle.std.proofs.lemmas.List.{length-append}
use Rattle.std.proofs.lemmas.List.Sums.{sum_by-cons}
use Rattle.mc_model.specs.Good.{GoodWorld}
use Rattle.mc_model.specs.Link.{Link}
use Rattle.mc_model.specs.Run.{history, taken}
use Rattle.mc_model.specs.Run as run
use Rattle.mc_model.specs.Step.{Event, came, forget, forgot, is_new, join, joined, step}
use Rattle.mc_model.specs.Step.{on_bytes, take_from, ticked, took}
use Rattle.mc_model.specs.Tick.{at_tick, flush, shown_all, tick}
use Rattle.mc_model.specs.World.{Seat, Turn, World, on_link, on_seat}
use Rattle.mc_model.proofs.Maps.Options.{none_some}
use Rattle.mc_laws.proofs.Runs.Worlds.{new_good, run_good, step_good}
use Rattle.mc_laws.proofs.Walk.Each.{each_last}
use Rattle.mc_laws.proofs.Walk.Ticking.{at_tick_last}
use Rattle.mc_load.specs.Load.{arrival, client_turn, load_events, load_round}
use Rattle.mc_measure.specs.LoadText.{before_load, client_bytes, load_bytes, load_log, load_start}
use Rattle.mc_measure.specs.Plays.{bytes_taken, taken_at}
use Rattle.mc_measure.specs.Settling.{is_shut, owes, settled, settled_log, takings}
use Rattle.mc_measure.proofs.Takings.{AreAt, all_there, as_is, settled_is, tooks}

-- ---- sums

sum_none : (f : ℕ → ℕ) (from n : ℕ) → ((i : ℕ) → from ≤ i → f i ≡ 0) →
    sum_by f (range_with_len from n) ≡ 0
sum_none f from zero none = refl
sum_none f from (suc n) none = omega (
  arith,
  sum_by-cons f from (range_with_len (from + 1) n),
  none from (omega arith),
  sum_none f (from + 1) n (λ i le. none i (omega (arith, le))),
)

-- one of them alone counts
sum_one : (f : ℕ → ℕ) (k from n : ℕ) → from ≤ k → k < from + n → ((i : ℕ) → i ≢ k → f i ≡ 0) →
    sum_by f (range_with_len from n) ≡ f k
sum_one f k from zero le lt others = absurd (omega (arith, le, lt))
sum_one f k from (suc n) le lt others = elim (cases_eq from k) [
  | inl same ↦
      let later = sum_none f (from + 1) n
      (λ i above. others i (λ is. omega (arith, is, same, above))) in
      sum_by-cons f from (range_with_len (from + 1) n)
      ∙ omega (arith, later) ∙ ap f same
  | inr ne ↦
      let here = others from ne in
      sum_by-cons f from (range_with_len (from + 1) n) ∙ omega (arith, here)
      ∙ sum_one f k (from + 1) n (omega (arith, le, ne)) (omega (arith, lt)) others
]

sum_two : (f g : ℕ → ℕ) (xs : List ℕ) →
    sum_by (λ (i : ℕ). f i + g i) xs ≡ sum_by f xs + sum_by g xs
sum_two f g [] = refl
sum_two f g (x ∷ xs) = omega (
  arith,
  sum_by-cons (λ (i : ℕ). f i + g i) x xs,
  sum_by-cons f x xs,
  sum_by-cons g x xs,
  sum_two f g xs,
)

sum_same : (f g : ℕ → ℕ) (xs : List ℕ) → ((i : ℕ) → f i ≡ g i) → sum_by f xs ≡ sum_by g xs
sum_same f g [] same = refl
sum_same f g (x ∷ xs) same = omega (
  arith,
  sum_by-cons f x xs,
  sum_by-cons g x xs,
  same x,
  sum_same f g xs same,
)

-- ---- who takes

-- those that take have numbers below one
abbrev pub TakeBelow : ℕ → List Event → Type 0
TakeBelow n [] = Unit {0}
TakeBelow n (took k m ∷ events) = (k < n) × TakeBelow n events
TakeBelow n (e ∷ events) = TakeBelow n events

abbrev by_one : World → Event → ℕ → ℕ
by_one w e i = length (run.taken_at i w e)

at_one : (n : ℕ) (w : World) (e : Event) (events : List Event) → TakeBelow n (e ∷ events) →
    taken_at w e ≡ sum_by (by_one w e) (range_with_len 0 n)
at_one n w (took k m) events below =
    sym (sum_one (by_one w (took k m)) k 0 n (omega arith) (let lt = below.0 in omega (arith, lt))
    (λ i ne. grind (arith, nat_tests, ne)) ∙ grind (arith, nat_tests))
at_one n w other events below = sym (sum_none (λ i. 0) 0 n (λ i le. refl))

below_later : (n : ℕ) (e : Event) (events : List Event) → TakeBelow n (e ∷ events) →
    TakeBelow n events
below_later n (took k m) events below = below.1
below_later n other events below = below

-- what is taken in a log is what each of them takes
pub all_counted : (n : ℕ) (w : World) (log : List Event) → TakeBelow n log →
    bytes_taken w log ≡ sum_by (λ (i : ℕ). length (taken i w log)) (range_with_len 0 n)
all_counted n w [] below = sym (sum_none (λ i. 0) 0 n (λ i le. refl))
all_counted n w (e ∷ log) below =
    let v : World = (step w e).world in
    let all : List ℕ = range_with_len 0 n in
    let later : ℕ → ℕ = λ i. length (taken i v log) in
    omega (
      arith,
      at_one n w e log below,
      all_counted n v log (below_later n e log below),
      sum_two (by_one w e) later all,
      sum_same (λ i. length (taken i w (e ∷ log))) (λ i. by_one w e i + later i) all
          (λ i. length-append (run.taken_at i w e) (taken i v log)),
    )

-- ---- which numbers there are

-- each number from one on is new
abbrev NewFrom : ℕ → World → Type 0
NewFrom n w = (k : ℕ) → n ≤ k → is_new k w.last ≡ true

-- what comes is of numbers below one, or a tick
abbrev pub ComeBelow : ℕ → List Event → Type 0
ComeBelow n [] = Unit {0}
ComeBelow n (joined k ∷ events) = (k < n) × ComeBelow n events
ComeBelow n (came k bytes ∷ events) = ComeBelow n events
ComeBelow n (ticked ∷ events) = ComeBelow n events
ComeBelow n (e ∷ events) = ⊥

seat_last : (w : World) (k : ℕ) (f : Seat → Turn) → (on_seat w k f).world.last ≡ w.last
seat_last w k f = by (get w.links k)
  where
    by : (o : Option Link) → (on_link w k f o).world.last ≡ w.last
    by None = refl
    by (Some l) = refl

tick_last : (w : World) → (tick w).world.last ≡ w.last
tick_last w =
    each_last (λ (j : ℕ) (l : Link). flush (at_tick w).game (get (at_tick w).shown j) j l)
    (shown_all (at_tick w)) ∙ at_tick_last w

forget_last : (w : World) (k : ℕ) (o : Option Link) → (forget w k o).last ≡ w.last
forget_last w k None = refl
forget_last w k (Some l) = grind (arith, nat_tests)

join_new : (n : ℕ) (w : World) (j : ℕ) → j < n → NewFrom n w → NewFrom n (join w j)
join_new n w j below new k from = grind (arith, nat_tests, below, from, new k from)

took_new : (n : ℕ) (w : World) (k m : ℕ) → NewFrom n w → NewFrom n (step w (took k m)).world
unfolding step
took_new n w k m new j from = ap (is_new j) (seat_last w k (take_from m)) ∙ new j from

forgot_new : (n : ℕ) (w : World) (k : ℕ) → NewFrom n w → NewFrom n (step w (forgot k)).world
unfolding step
forgot_new n w k new j from = ap (is_new j) (forget_last w k (get w.links k)) ∙ new j from

step_new : (n : ℕ) (w : World) (e : Event) (events : List Event) → ComeBelow n (e ∷ events) →
    NewFrom n w → NewFrom n (step w e).world
unfolding step
step_new n w (joined j) events below new = join_new n w j below.0 new
step_new n w (came k bytes) events below new = λ j from.
    ap (is_new j) (seat_last w k (λ (s : Seat). on_bytes k s bytes)) ∙ new j from
step_new n w ticked events below new = λ j from. ap (is_new j) (tick_last w) ∙ new j from
step_new n w other events below new = absurd below

-- taking and forgetting bring no number
tooks_new : (n : ℕ) (es : List (ℕ × Link)) (w : World) → NewFrom n w →
    NewFrom n (history w (map (λ (e : ℕ × Link). took e.0 (length e.1.owed)) es))
tooks_new n [] w new = new
tooks_new n (e ∷ es) w new = tooks_new n es (step w (took e.0 (length e.1.owed))).world
    (took_new n w e.0 (length e.1.owed) new)

forgots_new : (n : ℕ) (es : List (ℕ × Link)) (w : World) → NewFrom n w →
    NewFrom n (history w (map (λ (e : ℕ × Link). forgot e.0) es))
forgots_new n [] w new = new
forgots_new n (e ∷ es) w new =
    forgots_new n es (step w (forgot e.0)).world (forgot_new n w e.0 new)

settled_new : (n : ℕ) (w : World) → NewFrom n w → NewFrom n (settled w)
settled_new n w new k from = ap (λ (v : World). is_new k v.last) (settled_is w)
    ∙ forgots_new n (filter is_shut (entries w.links)) (history w (tooks w))
    (tooks_new n (filter owes (entries w.links)) w new) k from

-- ---- those that take have such numbers

number_below : (n : ℕ) (w : World) (e : ℕ × Link) → GoodWorld w → NewFrom n w →
    get w.links e.0 ≡ Some e.1 → e.0 < n
number_below n w e good new there = by (nat_lt e.0 n) refl
  where
    by : (b : Bool) → nat_lt e.0 n ≡ b → e.0 < n
    by true is = grind (arith, nat_tests, is)
    by false is = absurd (none_some _ e.1
        (good.fresh e.0 (new e.0 (grind (arith, nat_tests, is)))) there)

tooks_below : (n : ℕ) (w : World) (es : List (ℕ × Link)) (events : List Event) → GoodWorld w →
    NewFrom n w → AreAt as_is w es → TakeBelow n events → TakeBelow n
    (map (λ (e : ℕ × Link). took e.0 (length e.1.owed)) (filter owes es) ++ events)
tooks_below n w [] events good new there later = later
tooks_below n w (e ∷ es) events good new there later =
    let rest = tooks_below n w es events good new there.1 later in
    elim (owes e) as (λ b. TakeBelow n (map (λ (e : ℕ × Link). took e.0 (length e.1.owed))
    (cond b (e ∷ filter owes es) (filter owes es)) ++ events)) [
      | true ↦ (number_below n w e good new there.0, rest)
      | false ↦ rest
    ]

forgots_below : (n : ℕ) (es : List (ℕ × Link)) (events : List Event) → TakeBelow n events →
    TakeBelow n (map (λ (e : ℕ × Link). forgot e.0) es ++ events)
forgots_below n [] events later = later
forgots_below n (e ∷ es) events later = forgots_below n es events later

takings_below : (n : ℕ) (w : World) (events : List Event) → GoodWorld w → NewFrom n w →
    TakeBelow n events → TakeBelow n (takings w ++ events)
unfolding takings
takings_below n w events good new later =
    let shut : List Event = map (λ (e : ℕ × Link). forgot e.0) (filter is_shut (entries w.links)) in
    subst (TakeBelow n) (sym (append_assoc (tooks w) shut events))
    (tooks_below n w (entries w.links) (shut ++ events) good new (all_there w)
    (forgots_below n (filter is_shut (entries w.links)) events later))

come_first : (n : ℕ) (e : Event) (events later : List Event) → ComeBelow n (e ∷ events) →
    TakeBelow n later → TakeBelow n (e ∷ later)
come_first n (joined k) events later come below = below
come_first n (came k bytes) events later come below = below
come_first n ticked events later come below = below
come_first n other events later come below = absurd come

come_later : (n : ℕ) (e : Event) (events : List Event) → ComeBelow n (e ∷ events) →
    ComeBelow n events
come_later n (joined k) events come = come.1
come_later n (came k bytes) events come = come
come_later n ticked events come = come
come_later n other events come = absurd come

log_below : (n : ℕ) (w : World) (events : List Event) → GoodWorld w → NewFrom n w →
    ComeBelow n events → TakeBelow n (settled_log w events)
log_below n w [] good new come = tt
log_below n w (e ∷ events) good new come =
    let v : World = (step w e).world in
    let now : GoodWorld v = step_good w e good in
    let fresh = step_new n w e events come new in
    come_first n e events _ come (takings_below n v (settled_log (settled v) events) now fresh
    (log_below n (settled v) events (run_good v (takings v) now) (settled_new n v fresh)
    (come_later n e events come)))

-- ---- the events of a load

arrivals_below : (n from m : ℕ) (events : List Event) → from + m ≤ n → ComeBelow n events →
    ComeBelow n (flat_map arrival (range_with_len from m) ++ events)
arrivals_below n from zero events few later = later
arrivals_below n from (suc m) events few later =
    (omega (arith, few), arrivals_below n (from + 1) m events (omega (arith, few)) later)

turns_below : (n t : ℕ) (clients : List ℕ) (events : List Event) → ComeBelow n events →
    ComeBelow n (map (client_turn t) clients ++ events)
turns_below n t [] events later = later
turns_below n t (i ∷ clients) events later = turns_below n t clients events later

rounds_below : (n : ℕ) (ticks : List ℕ) → ComeBelow n (flat_map (load_round n) ticks)
rounds_below n [] = tt
rounds_below n (t ∷ ticks) =
    subst (ComeBelow n) (sym (append_assoc (map (client_turn t) (range_with_len 0 n))
    (ticked ∷ []) (flat_map (load_round n) ticks)))
    (turns_below n t (range_with_len 0 n) (ticked ∷ flat_map (load_round n) ticks)
    (rounds_below n ticks))

load_below : (n ticks : ℕ) → ComeBelow n (load_events n ticks)
load_below n ticks = arrivals_below n 0 n (flat_map (load_round n) (range_with_len 1 ticks))
    (omega arith) (rounds_below n (range_with_len 1 ticks))

-- what is taken in a load is what its clients take, and so what they are handed where they take all
pub load_counted : (n ticks : ℕ) → ((i : ℕ) →
    taken i (before_load n) (load_log n ticks) ≡ client_bytes n ticks i) →
    bytes_taken (before_load n) (load_log n ticks) ≡ load_bytes n ticks
unfolding load_bytes
load_counted n ticks whole = all_counted n (before_load n) (load_log n ticks)
    (log_below n (before_load n) (load_events n ticks) (new_good (load_start n))
    (λ k from. refl) (load_below n ticks))
    ∙ sum_same (λ i. length (taken i (before_load n) (load_log n ticks)))
    (λ i. length (client_bytes n ticks i)) (range_with_len 0 n) (λ i. ap length (whole i))
