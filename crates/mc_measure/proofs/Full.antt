-- That no outbox was too small: where none of those that are owed bytes or closed was closed so,
-- and as long as connections only take and are forgotten.
use Rattle.std.proofs.Common.{◌≡◌, ◌≢◌, ℕ, true, List, [], ◌∷◌, ◌++◌, length}
use Rattle.std.proofs.Common.{map, refl, sym, subst, ap, ◌∙◌, inl, inr, arith}
use Rattle.std.specs.Prelude.{Option, Some, None, is_some}
use Rattle.std.specs.List.{AllByRecursion, filter}
use Rattle.std.specs.Option.{option_and_then}
use Rattle.std.specs.FinMap.{contains_key-keys, entries, get}
use Rattle.std.proofs.lemmas.Bool.{cases_eq}
use Rattle.mc_model.specs.declared.cause.Cause.{Cause}
use Rattle.mc_model.specs.declared.cause.Cause.TheVariants.{Backlog}
use Rattle.mc_model.specs.Step.{Event, forgot, step, took}
use Rattle.mc_model.specs.Stages.{is_closed}
use Rattle.mc_model.specs.Link.{Link}
use Rattle.mc_model.specs.Run.{cause_in, first_of, history, why}
use Rattle.mc_model.specs.World.{World}
use Rattle.mc_model.proofs.Maps.Lookups.{put_same, tied_number, untied_number}
use Rattle.mc_model.proofs.Maps.Options.{none_some, some_is}
use Rattle.mc_laws.proofs.Runs.Promises.{bytes_promised}
use Rattle.mc_laws.proofs.Serving.Forgetting.{closed_left}
use Rattle.mc_links.specs.Kept.{is_pending}
use Rattle.mc_events.specs.Asking.{pending_in}
use Rattle.mc_events.specs.Stands.{IsReached}
use Rattle.mc_events.proofs.Loops.{is_of}
use Rattle.mc_measure.specs.Settling.{NeverFull, NoneFull, is_shut, owes, takings}
use Rattle.mc_measure.proofs.Taken.{took_is, took_none, took_other, taking}
use Rattle.mc_measure.proofs.Takings.{AreAt, all_there, as_is, numbers}

abbrev cause_of : Option Link → Option Cause
cause_of o = option_and_then (λ (l : Link). l.cause) o

-- ---- after an event

-- what holds of all of some numbers holds of one
of_all : (P : ℕ → Type 0) (k : ℕ) (ks : List ℕ) → AllByRecursion P ks → is_of k ks ≡ true → P k
of_all P k [] all is = absurd cc
of_all P k (j ∷ ks) all is = elim (cases_eq k j) [
  | inl same ↦ subst P (sym same) all.0
  | inr ne ↦ of_all P k ks all.1 (grind (arith, is, untied_number k j ne))
]

-- one that is owed bytes or closed is among those
pending_among : (w : World) (k : ℕ) (l : Link) (es : List (ℕ × Link)) → get w.links k ≡ Some l →
    is_pending l ≡ true → AreAt as_is w es → is_of k (numbers es) ≡ true →
    is_of k (numbers (filter (λ (e : ℕ × Link). is_pending e.1) es)) ≡ true
pending_among w k l [] there pends at is = absurd cc
pending_among w k l (e ∷ es) there pends at is = elim (cases_eq k e.0) [
  | inl same ↦
      let mine : is_pending e.1 ≡ true =
      ap is_pending (some_is e.1 l (sym at.0 ∙ ap (get w.links) (sym same) ∙ there)) ∙ pends in
      grind (arith, mine, same, tied_number k)
  | inr ne ↦
      let rest = pending_among w k l es there pends at.1
      (grind (arith, is, untied_number k e.0 ne)) in
      grind (arith, rest)
]

pub none_full : (w : World) → IsReached w →
    AllByRecursion (λ (k : ℕ). cause_in k w ≢ Some Backlog) (pending_in w) → NoneFull w
none_full w reached all k full = by (get w.links k) refl
  where
    by : (o : Option Link) → get w.links k ≡ o → ⊥
    by None is = none_some (cause_in k w) Backlog (ap cause_of is) full
    by (Some l) is =
        let kept : l.cause ≡ Some Backlog = sym (ap cause_of is) ∙ full in
        let closed : is_closed l.stage ≡ true =
        ((bytes_promised reached.start reached.events k).closed l
        (ap (λ (v : World). get v.links k) (sym reached.is) ∙ is)).is ∙ ap is_some kept in
        let pends : is_pending l ≡ true = rw closed refl in
        of_all (λ (k : ℕ). cause_in k w ≢ Some Backlog) k (pending_in w) all
        (pending_among w k l (entries w.links) is pends (all_there w)
        (sym (contains_key-keys w.links k) ∙ ap is_some is)) full

-- ---- while connections take and are forgotten

took_cause : (w : World) (j n k : ℕ) → cause_in k (step w (took j n)).world ≡ cause_in k w
took_cause w j n k = elim (cases_eq k j) [
  | inl same ↦ ap (λ (i : ℕ). cause_in i (step w (took j n)).world) same ∙ own (get w.links j) refl
      ∙ ap (λ (i : ℕ). cause_in i w) (sym same)
  | inr ne ↦ ap cause_of (took_other w j n k ne)
]
  where
    own : (o : Option Link) → get w.links j ≡ o →
        cause_in j (step w (took j n)).world ≡ cause_in j w
    own None is = ap (cause_in j) (took_none w j n is)
    own (Some l) is = ap (cause_in j) (took_is w j n l is)
        ∙ ap cause_of (put_same w.links j (taking n l)) ∙ sym (ap cause_of is)

forgot_full : (w : World) (j : ℕ) → NoneFull w → NoneFull (step w (forgot j)).world
forgot_full w j none k full = by (get (step w (forgot j)).world.links k) refl
  where
    by : (o : Option Link) → get (step w (forgot j)).world.links k ≡ o → ⊥
    by None is =
        none_some (cause_in k (step w (forgot j)).world) Backlog (ap cause_of is) full
    by (Some m) is = none k (ap cause_of (closed_left k m (j ∷ []) w is).0
        ∙ sym (ap cause_of is) ∙ full)

pub never_more : (w : World) (xs ys : List Event) → NeverFull w xs →
    NeverFull (history w xs) ys → NeverFull w (xs ++ ys)
never_more w [] ys none never = never
never_more w (e ∷ xs) ys none never =
    (none.0, never_more (step w e).world xs ys none.1 never)

tooks_never : (es : List (ℕ × Link)) (w : World) → NoneFull w →
    NeverFull w (map (λ (e : ℕ × Link). took e.0 (length e.1.owed)) es)
tooks_never [] w none = tt
tooks_never (e ∷ es) w none =
    let next : NoneFull (step w (took e.0 (length e.1.owed))).world =
    (λ k full. none k (sym (took_cause w e.0 (length e.1.owed) k) ∙ full)) in
    (next, tooks_never es (step w (took e.0 (length e.1.owed))).world next)

tooks_none : (es : List (ℕ × Link)) (w : World) → NoneFull w →
    NoneFull (history w (map (λ (e : ℕ × Link). took e.0 (length e.1.owed)) es))
tooks_none [] w none = none
tooks_none (e ∷ es) w none = tooks_none es (step w (took e.0 (length e.1.owed))).world
    (λ k full. none k (sym (took_cause w e.0 (length e.1.owed) k) ∙ full))

forgots_never : (es : List (ℕ × Link)) (w : World) → NoneFull w →
    NeverFull w (map (λ (e : ℕ × Link). forgot e.0) es)
forgots_never [] w none = tt
forgots_never (e ∷ es) w none =
    let next = forgot_full w e.0 none in
    (next, forgots_never es (step w (forgot e.0)).world next)

pub takings_never : (w : World) → NoneFull w → NeverFull w (takings w)
unfolding takings
takings_never w none =
    let owing : List (ℕ × Link) = filter owes (entries w.links) in
    never_more w (map (λ (e : ℕ × Link). took e.0 (length e.1.owed)) owing)
    (map (λ (e : ℕ × Link). forgot e.0) (filter is_shut (entries w.links)))
    (tooks_never owing w none) (forgots_never (filter is_shut (entries w.links)) _
    (tooks_none owing w none))

-- ---- why a connection was closed

first_other : (a b : Option Cause) → a ≢ Some Backlog → b ≢ Some Backlog →
    first_of a b ≢ Some Backlog
first_other None b first later = later
first_other (Some c) b first later = first

pub never_why : (k : ℕ) (w : World) (events : List Event) → NeverFull w events →
    why k w events ≢ Some Backlog
never_why k w [] never = λ is. cc
never_why k w (e ∷ events) never = first_other (cause_in k (step w e).world)
    (why k (step w e).world events) (never.0 k) (never_why k (step w e).world events never.1)
