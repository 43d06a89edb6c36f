-- What taking from all connections and forgetting those that are closed make of a world, one after
-- another and as events, and how many bytes are taken so.
use Rattle.std.proofs.Common.{◌≡◌, ◌≢◌, ℕ, ◌+◌, Bool, true, false, cond, List, [], ◌∷◌, ◌++◌}
use Rattle.std.proofs.Common.{length}
use Rattle.std.proofs.Common.{take, map, refl, sym, ap, ◌∙◌, arith}
use Rattle.std.specs.Prelude.{nat_lt, Option, Some, None, is_some}
use Rattle.std.specs.List.{AllByRecursion, filter}
use Rattle.std.specs.Cmp.{nat_cmp_total}
use Rattle.std.specs.FinMap.{contains_key-keys, entries, entries_sorted, get, get-entries, keys}
use Rattle.std.proofs.lemmas.Bool.Decides.{nat_tests}
use Rattle.std.proofs.lemmas.List.{take_all}
use Rattle.std.proofs.lemmas.List.Sums.{fold-append}
use Rattle.std.proofs.Math.Bool.{and-true}
use Rattle.mc_model.specs.Step.{Event, took, forgot, step}
use Rattle.mc_model.specs.Stages.{is_closed}
use Rattle.mc_model.specs.Link.{Link}
use Rattle.mc_model.specs.Run.{history, owed_in, owed_of}
use Rattle.mc_model.specs.World.{World}
use Rattle.mc_model.proofs.Maps.Sorted.{each_found}
use Rattle.mc_model.proofs.Maps.Lookups.{untied_number}
use Rattle.mc_links.specs.Kept.{is_pending}
use Rattle.mc_events.specs.Asking.{is_over, is_done_in, pending_in}
use Rattle.mc_events.proofs.Loops.{AreOnce, is_of}
use Rattle.mc_events.proofs.Numbers.{keys_once}
use Rattle.mc_measure.specs.Plays.{bytes_taken, each_owed}
use Rattle.mc_measure.specs.Settling.{owes, is_shut, takings, settled, taken, taken_of, forgotten}
use Rattle.mc_measure.specs.Settling.{all_taken, all_forgotten}
use Rattle.mc_measure.proofs.Taken.{emptied, forgot_owed, forgotten_other, taken_other, taken_owed}
use Rattle.mc_measure.proofs.Taken.{some_owed, taken_own}

-- ---- connections by their numbers

abbrev pub numbers : List (ℕ × Link) → List ℕ
numbers es = map (λ (e : ℕ × Link). e.0) es

-- their links are those of a world, changed
abbrev pub AreAt : (Link → Link) → World → List (ℕ × Link) → Type 0
AreAt f w es = AllByRecursion (λ (e : ℕ × Link). get w.links e.0 ≡ Some (f e.1)) es

abbrev pub as_is : Link → Link
as_is l = l

-- all that are there
pub all_there : (w : World) → AreAt as_is w (entries w.links)
all_there w = each (entries w.links) (each_found nat_cmp_total
    (λ (e : ℕ × Link). get w.links e.0 ≡ Some e.1) (λ (e : ℕ × Link). true) (entries w.links)
    (entries_sorted w.links) (λ q l found. get-entries w.links q ∙ found))
  where
    each : (es : List (ℕ × Link)) → AllByRecursion (λ (e : ℕ × Link). get w.links e.0 ≡ Some e.1)
        (filter (λ (e : ℕ × Link). true) es) → AreAt as_is w es
    each [] there = tt
    each (e ∷ es) there = (there.0, each es there.1)

pub all_once : (w : World) → AreOnce (numbers (entries w.links))
all_once w = keys_once w.links

-- they stay, where nothing but another changes
pub still_at : (f : Link → Link) (v w : World) (k : ℕ) (es : List (ℕ × Link)) →
    ((j : ℕ) → j ≢ k → get w.links j ≡ get v.links j) → is_of k (numbers es) ≡ false →
    AreAt f v es → AreAt f w es
still_at f v w k [] others none there = tt
still_at f v w k (e ∷ es) others none there = (
  grind (arith, nat_tests, others, none, there.0),
  still_at f v w k es others (grind (arith, nat_tests, none)) there.1,
)

-- ---- each takes all

pub owed_is : (v : World) (e : ℕ × Link) → get v.links e.0 ≡ Some e.1 → owed_in e.0 v ≡ e.1.owed
owed_is v e there = ap owed_of there

pub taken_still : (v : World) (e : ℕ × Link) (es : List (ℕ × Link)) →
    is_of e.0 (numbers es) ≡ false → AreAt as_is v es → AreAt as_is (taken e.0 v) es
taken_still v e es none there =
    still_at as_is v (taken e.0 v) e.0 es (taken_other v e.0) none there

-- the others are as they were
all_others : (j : ℕ) (ks : List ℕ) (v : World) → is_of j ks ≡ false →
    get (all_taken ks v).links j ≡ get v.links j
all_others j [] v none = refl
all_others j (k ∷ ks) v none =
    grind (arith, nat_tests, none, all_others j ks (taken k v), taken_other v k)

-- and each of them is emptied
pub takes_all : (v : World) (es : List (ℕ × Link)) → AreOnce (numbers es) → AreAt as_is v es →
    AreAt emptied (all_taken (numbers es) v) es
takes_all v [] once there = tt
takes_all v (e ∷ es) once there = (
  all_others e.0 (numbers es) (taken e.0 v) once.0 ∙ taken_own v e.0 ∙ rw there.0 refl,
  takes_all (taken e.0 v) es once.1 (taken_still v e es once.0 there.1),
)

-- what one takes, as events
abbrev pub took_so : List (ℕ × Link) → List Event
took_so es = map (λ (e : ℕ × Link). took e.0 (length e.1.owed)) es

taken_first : (v : World) (k : ℕ) (l : Link) (es : List (ℕ × Link)) →
    history (taken_of k v l.owed) (took_so es)
    ≡ history v (took_so (cond (owes (k, l)) ((k, l) ∷ es) es))
taken_first v k l es = by l.owed refl
  where
    by : (o : List ℕ) → l.owed ≡ o → history (taken_of k v o) (took_so es)
        ≡ history v (took_so (cond (nat_lt 0 (length o)) ((k, l) ∷ es) es))
    by [] e = refl
    by (b ∷ bytes) e =
        ap (λ (o : List ℕ). history (step v (took k (length o))).world (took_so es)) (sym e)
        ∙ ap (λ (t : Bool). history v (took_so (cond t ((k, l) ∷ es) es))) (sym (some_owed b bytes))

-- those that are owed anything take it
pub history_took : (v : World) (es : List (ℕ × Link)) → AreOnce (numbers es) → AreAt as_is v es →
    all_taken (numbers es) v ≡ history v (took_so (filter owes es))
history_took v [] once there = refl
history_took v (e ∷ es) once there =
    history_took (taken e.0 v) es once.1 (taken_still v e es once.0 there.1)
    ∙ ap (λ (o : List ℕ). history (taken_of e.0 v o) (took_so (filter owes es)))
    (owed_is v e there.0)
    ∙ taken_first v e.0 e.1 (filter owes es)

-- ---- those that are closed are forgotten

-- those that took all are done where they are closed
pub done_is : (v : World) (e : ℕ × Link) → get v.links e.0 ≡ Some (emptied e.1) →
    is_done_in e.0 v ≡ is_shut e
done_is v e there = ap is_over there ∙ and-true (is_closed e.1.stage)

pub forgotten_is : (v : World) (e : ℕ × Link) → get v.links e.0 ≡ Some (emptied e.1) →
    forgotten e.0 v ≡ cond (is_shut e) (step v (forgot e.0)).world v
forgotten_is v e there =
    ap (λ (b : Bool). cond b (step v (forgot e.0)).world v) (done_is v e there)

pub forgotten_still : (v : World) (e : ℕ × Link) (es : List (ℕ × Link)) →
    is_of e.0 (numbers es) ≡ false → AreAt emptied v es → AreAt emptied (forgotten e.0 v) es
forgotten_still v e es none there =
    still_at emptied v (forgotten e.0 v) e.0 es (forgotten_other v e.0) none there

-- as events, just those
abbrev pub forgot_so : List (ℕ × Link) → List Event
forgot_so es = map (λ (e : ℕ × Link). forgot e.0) es

forgotten_first : (v : World) (e : ℕ × Link) (b : Bool) (es : List (ℕ × Link)) →
    history (cond b (step v (forgot e.0)).world v) (forgot_so es)
    ≡ history v (forgot_so (cond b (e ∷ es) es))
forgotten_first v e true es = refl
forgotten_first v e false es = refl

pub history_forgot : (v : World) (es : List (ℕ × Link)) → AreOnce (numbers es) →
    AreAt emptied v es →
    all_forgotten (numbers es) v ≡ history v (forgot_so (filter is_shut es))
history_forgot v [] once there = refl
history_forgot v (e ∷ es) once there =
    history_forgot (forgotten e.0 v) es once.1 (forgotten_still v e es once.0 there.1)
    ∙ ap (λ (x : World). history x (forgot_so (filter is_shut es))) (forgotten_is v e there.0)
    ∙ forgotten_first v e (is_shut e) (filter is_shut es)

-- ---- all of it

abbrev pub tooks : World → List Event
tooks w = map (λ (e : ℕ × Link). took e.0 (length e.1.owed)) (filter owes (entries w.links))

abbrev pub forgots : World → List Event
forgots w = map (λ (e : ℕ × Link). forgot e.0) (filter is_shut (entries w.links))

pub settled_is : (w : World) → settled w ≡ history (history w (tooks w)) (forgots w)
unfolding takings
settled_is w = fold-append _ w (tooks w) (forgots w)

-- ---- those that are owed bytes or closed

abbrev pub pending_entries : World → List (ℕ × Link)
pending_entries w = filter (λ (e : ℕ × Link). is_pending e.1) (entries w.links)

-- some of these are none but these
none_among : (test : ℕ × Link → Bool) (k : ℕ) (es : List (ℕ × Link)) →
    is_of k (numbers es) ≡ false → is_of k (numbers (filter test es)) ≡ false
none_among test k [] none = none
none_among test k (e ∷ es) none = grind (arith, nat_tests, none, none_among test k es)

once_among : (test : ℕ × Link → Bool) (es : List (ℕ × Link)) → AreOnce (numbers es) →
    AreOnce (numbers (filter test es))
once_among test [] once = tt
once_among test (e ∷ es) once =
    elim (test e) as (λ b. AreOnce (numbers (cond b (e ∷ filter test es) (filter test es)))) [
      | true ↦ (none_among test e.0 es once.0, once_among test es once.1)
      | false ↦ once_among test es once.1
    ]

all_among : (P : ℕ × Link → Type 0) (test : ℕ × Link → Bool) (es : List (ℕ × Link)) →
    AllByRecursion P es → AllByRecursion P (filter test es)
all_among P test [] all = tt
all_among P test (e ∷ es) all =
    elim (test e) as (λ b. AllByRecursion P (cond b (e ∷ filter test es) (filter test es))) [
      | true ↦ (all.0, all_among P test es all.1)
      | false ↦ all_among P test es all.1
    ]

-- whoever is owed bytes or closed is among them
pub owing_among : (es : List (ℕ × Link)) →
    filter owes (filter (λ (e : ℕ × Link). is_pending e.1) es) ≡ filter owes es
owing_among [] = refl
owing_among (e ∷ es) = grind (arith, nat_tests, owing_among es)

pub shut_among : (es : List (ℕ × Link)) →
    filter is_shut (filter (λ (e : ℕ × Link). is_pending e.1) es) ≡ filter is_shut es
shut_among [] = refl
shut_among (e ∷ es) = grind (arith, nat_tests, shut_among es)

pub pending_once : (w : World) → AreOnce (numbers (pending_entries w))
pending_once w = once_among (λ (e : ℕ × Link). is_pending e.1) (entries w.links) (all_once w)

pub pending_there : (w : World) → AreAt as_is w (pending_entries w)
pending_there w = all_among (λ (e : ℕ × Link). get w.links e.0 ≡ Some e.1)
    (λ (e : ℕ × Link). is_pending e.1) (entries w.links) (all_there w)

-- taking from them and then forgetting those that are closed
pub all_settled : (w : World) →
    all_forgotten (pending_in w) (all_taken (pending_in w) w) ≡ settled w
all_settled w =
    let es = pending_entries w in
    history_forgot (all_taken (numbers es) w) es (pending_once w)
    (takes_all w es (pending_once w) (pending_there w))
    ∙ ap (λ (fs : List (ℕ × Link)). history (all_taken (numbers es) w) (forgot_so fs))
    (shut_among (entries w.links))
    ∙ ap (λ (x : World). history x (forgots w))
    (history_took w es (pending_once w) (pending_there w)
    ∙ ap (λ (fs : List (ℕ × Link)). history w (took_so fs)) (owing_among (entries w.links)))
    ∙ sym (settled_is w)

-- ---- how many bytes are taken

pub bytes_more : (w : World) (xs ys : List Event) →
    bytes_taken w (xs ++ ys) ≡ bytes_taken w xs + bytes_taken (history w xs) ys
bytes_more w [] ys = omega arith
bytes_more w (e ∷ xs) ys = grind (arith, bytes_more (step w e).world xs ys)

forgots_none : (w : World) (es : List (ℕ × Link)) → bytes_taken w (forgot_so es) ≡ 0
forgots_none w [] = refl
forgots_none w (e ∷ es) = omega (arith, forgots_none (step w (forgot e.0)).world es)

-- those of one, before those of others
first_bytes : (v : World) (e : ℕ × Link) (es : List (ℕ × Link)) → owed_in e.0 v ≡ e.1.owed →
    length e.1.owed + bytes_taken (taken_of e.0 v e.1.owed) (took_so es)
    ≡ bytes_taken v (took_so (cond (owes e) (e ∷ es) es))
first_bytes v e es is = by e.1.owed refl
  where
    by : (o : List ℕ) → e.1.owed ≡ o →
        length o + bytes_taken (taken_of e.0 v o) (took_so es)
        ≡ bytes_taken v (took_so (cond (nat_lt 0 (length o)) (e ∷ es) es))
    by [] none = omega arith
    by (b ∷ bytes) some =
        let all : take (length e.1.owed) (owed_in e.0 v) ≡ e.1.owed =
        ap (take (length e.1.owed)) is ∙ take_all (length e.1.owed) e.1.owed (omega arith) in
        ap (λ (o : List ℕ). length o + bytes_taken (step v (took e.0 (length o))).world
        (took_so es)) (sym some)
        ∙ ap (λ (o : List ℕ). length o + bytes_taken (step v (took e.0 (length e.1.owed))).world
        (took_so es)) (sym all)
        ∙ ap (λ (t : Bool). bytes_taken v (took_so (cond t (e ∷ es) es)))
        (sym (some_owed b bytes))

bytes_took : (v : World) (es : List (ℕ × Link)) → AreOnce (numbers es) → AreAt as_is v es →
    each_owed (numbers es) v ≡ bytes_taken v (took_so (filter owes es))
bytes_took v [] once there = refl
bytes_took v (e ∷ es) once there =
    ap (λ (n : ℕ). length (owed_in e.0 v) + n)
    (bytes_took (taken e.0 v) es once.1 (taken_still v e es once.0 there.1))
    ∙ ap (λ (o : List ℕ). length o + bytes_taken (taken_of e.0 v o) (took_so (filter owes es)))
    (owed_is v e there.0)
    ∙ first_bytes v e (filter owes es) (owed_is v e there.0)

-- after an event
pub pending_bytes : (w : World) → each_owed (pending_in w) w ≡ bytes_taken w (takings w)
unfolding takings
pending_bytes w =
    bytes_took w (pending_entries w) (pending_once w) (pending_there w)
    ∙ ap (λ (xs : List (ℕ × Link)). bytes_taken w (took_so xs)) (owing_among (entries w.links))
    ∙ sym (omega (
      arith,
      bytes_more w (tooks w) (forgots w),
      forgots_none (history w (tooks w)) (filter is_shut (entries w.links)),
    ))

-- ---- what is left

-- nothing is owed
pub settled_none : (w : World) (k : ℕ) → owed_in k (settled w) ≡ []
settled_none w k = ap (owed_in k) (settled_is w)
    ∙ by_forgots (filter is_shut (entries w.links)) (history w (tooks w))
    (ap (owed_in k) (sym (history_took w (entries w.links) (all_once w) (all_there w)))
    ∙ by_all (keys w.links) w
    (λ other. absent (get w.links k) (contains_key-keys w.links k ∙ other)))
  where
    by_forgots : (es : List (ℕ × Link)) (v : World) → owed_in k v ≡ [] →
        owed_in k (history v (map (λ (e : ℕ × Link). forgot e.0) es)) ≡ []
    by_forgots [] v none = none
    by_forgots (e ∷ es) v none =
        by_forgots es (step v (forgot e.0)).world (forgot_owed k e.0 v none)

    by_all : (ks : List ℕ) (v : World) → (is_of k ks ≡ false → owed_in k v ≡ []) →
        owed_in k (all_taken ks v) ≡ []
    by_all [] v none = none refl
    by_all (j ∷ ks) v none = by_all ks (taken j v) (λ other. taken_owed k j v
        (λ ne. none (rw (untied_number k j ne) other)))

    absent : (o : Option Link) → is_some o ≡ false → owed_of o ≡ []
    absent None e = refl
    absent (Some l) e = absurd cc
