-- What a connection took, what was lost of it and what it is owed are what it was handed; and the
-- cause that is kept of it is its first.
use Rattle.std.proofs.Common.{◌≡◌, ◌≢◌, ℕ, zero, suc, Bool, true, false, List, [], ◌∷◌, ◌++◌}
use Rattle.std.proofs.Common.{Option, Some, None, refl, sym, subst, ap, ◌∙◌, inl, inr, append_assoc}
use Rattle.std.proofs.Common.{drop, take}
use Rattle.std.specs.Prelude.{◌⊎◌, is_some}
use Rattle.std.specs.Option.{option_and_then}
use Rattle.std.specs.Ordering.{nat_cmp}
use Rattle.std.specs.FinMap.{get, get-empty}
use Rattle.std.proofs.lemmas.List.{append-nil, take-append-drop}
use Rattle.mc_model.specs.declared.cause.Cause.{Cause}
use Rattle.mc_model.specs.declared.cause.Cause.TheVariants as causes
use Rattle.mc_model.specs.Packets.{Sent, bytes_of}
use Rattle.mc_model.specs.Run.{first_of, to, cause_in, handed, history, lost, lost_at, owed_of}
use Rattle.mc_model.specs.Run.{stream, taken, taken_at, why}
use Rattle.mc_model.specs.Step.{Event, is_new, step}
use Rattle.mc_model.specs.Stages.{is_closed}
use Rattle.mc_model.specs.Link.{Link}
use Rattle.mc_model.specs.Minds.{Start}
use Rattle.mc_model.specs.World.{Outcome, World, new_world}
use Rattle.mc_model.specs.Tick.{aged, at_tick, shown_all}
use Rattle.mc_model.specs.Good.{GoodWorld}
use Rattle.mc_model.specs.Apart.{IsShut}
use Rattle.mc_model.specs.Promised.{HasCause, Promised}
use Rattle.mc_model.proofs.Maps.Options.{none_some, some_is}
use Rattle.mc_laws.proofs.Walk.Each.{each_last}
use Rattle.mc_laws.proofs.Walk.Steps.{Move, departs, forgets as forgetting, joins as joining_in}
use Rattle.mc_laws.proofs.Walk.Steps.{passes, rests as resting, sits, step_moves, takes as taking}
use Rattle.mc_laws.proofs.Runs.Owing.{Owes, bytes_joined}
use Rattle.mc_laws.proofs.Runs.Effects.{Effect, effect, ends, goes, hands, joins, no_cause, rests}
use Rattle.mc_laws.proofs.Runs.Effects.{takes}
use Rattle.mc_laws.proofs.Runs.Worlds.{new_after, new_good, step_good}

abbrev cause_of : Option Link → Option Cause
cause_of o = option_and_then (λ (l : Link). l.cause) o

-- so many bytes were handed out, taken and lost, and this was the first cause
record Account (k : ℕ) (last : Option ℕ) (o : Option Link) (st tk lo : List ℕ)
    (y : Option Cause) : Type 0 where
  begun : (more : List ℕ) × (st ≡ tk ++ more)
  whole : y ≢ Some causes.Backlog → st ≡ tk ++ (lo ++ owed_of o)
  bare : y ≡ Some causes.Backlog → owed_of o ≡ []
  lost : (lo ≡ []) ⊎ ((owed_of o ≡ []) × IsShut o)
  has : (l : Link) → o ≡ Some l → HasCause l
  cause : (l : Link) → o ≡ Some l → l.cause ≡ y
  fresh : is_new k last ≡ true → (o ≡ None) × (st ≡ []) × (tk ≡ []) × (lo ≡ []) × (y ≡ None)

-- ---- first causes

first_same : (y : Option Cause) → first_of y y ≡ y
first_same None = refl
first_same (Some c) = refl

first_none : (y : Option Cause) → first_of y None ≡ y
first_none None = refl
first_none (Some c) = refl

first_not : (y z : Option Cause) (c : Cause) → first_of y z ≢ Some c → y ≢ Some c
first_not None z c ne e = cc
first_not (Some d) z c ne e = ne e

first_again : (x y z : Option Cause) → first_of (first_of x y) z ≡ first_of x (first_of y z)
first_again None y z = refl
first_again (Some c) y z = refl

is_backlog : (y : Option Cause) → (y ≡ Some causes.Backlog) ⊎ (y ≢ Some causes.Backlog)
is_backlog None = inr (λ e. cc)
is_backlog (Some causes.Backlog) = inl refl
is_backlog (Some other) = inr (λ e. cc)

padded : (k : ℕ) (last : Option ℕ) (o : Option Link) (st tk lo : List ℕ) (y : Option Cause) →
    Account k last o st tk lo y → Account k last o (st ++ []) (tk ++ []) (lo ++ []) y
padded k last o st tk lo y a =
    subst (λ (xs : List ℕ). Account k last o xs (tk ++ []) (lo ++ []) y) (sym (append-nil st))
    (subst (λ (xs : List ℕ). Account k last o st xs (lo ++ []) y) (sym (append-nil tk))
    (subst (λ (xs : List ℕ). Account k last o st tk xs y) (sym (append-nil lo)) a))

-- ---- one step

module _ (k : ℕ) (last later : Option ℕ) (o q : Option Link) (st tk lo : List ℕ) (y : Option Cause)
    (a : Account k last o st tk lo y) (old : is_new k later ≡ true → is_new k last ≡ true)
    (away : is_new k later ≡ true → q ≡ None) where
  -- where it is there, it is not to come
  not_new : (m : Link) → q ≡ Some m → is_new k later ≡ true → ⊥
  not_new m is new = none_some q m (away new) is

  rested : q ≡ o → Account k later q (st ++ []) (tk ++ []) (lo ++ []) (first_of y (cause_of q))
  rested same = padded k later q st tk lo (first_of y (cause_of q))
      (subst (λ (x : Option Cause). Account k later q st tk lo x) (sym first)
      (subst (λ (x : Option Link). Account k later x st tk lo y) (sym same) (record {
        begun = a.begun;
        whole = a.whole;
        bare = a.bare;
        lost = a.lost;
        has = a.has;
        cause = a.cause;
        fresh = λ new. a.fresh (old new);
      })))
    where
      at_link : (x : Option Link) → o ≡ x → first_of y (cause_of x) ≡ y
      at_link None is = first_none y
      at_link (Some l) is = ap (first_of y) (a.cause l is) ∙ first_same y

      first : first_of y (cause_of q) ≡ y
      first = ap (λ (x : Option Link). first_of y (cause_of x)) same ∙ at_link o refl

  -- an open one has no cause yet, and nothing of it was lost
  open_first : (l : Link) → o ≡ Some l → is_closed l.stage ≡ false → y ≡ None
  open_first l is open_ = sym (a.cause l is) ∙ no_cause l (a.has l is) open_

  open_kept : (l : Link) → o ≡ Some l → is_closed l.stage ≡ false → lo ≡ []
  open_kept l is open_ = elim (a.lost) [
    | inl none ↦ none
    | inr both ↦ (let shut : is_closed l.stage ≡ true = subst IsShut is both.1 in
        let clash : false ≡ true = sym open_ ∙ shut in absurd cc)
  ]

  handing : (l m : Link) (ps : List Sent) → o ≡ Some l → q ≡ Some m → is_closed l.stage ≡ false →
      Owes l m ps → Account k later q (st ++ bytes_of ps) (tk ++ []) (lo ++ [])
      (first_of y (cause_of q))
  handing l m ps is now open_ owes =
      let y_is = open_first l is open_ in
      let lo_is = open_kept l is open_ in
      let first : first_of y (cause_of q) ≡ m.cause =
      ap (λ (x : Option Cause). first_of x (cause_of q)) y_is ∙ ap cause_of now in
      let base : st ≡ tk ++ l.owed = a.whole (λ e. none_some y causes.Backlog y_is e)
      ∙ ap (λ (xs : List ℕ). tk ++ (xs ++ owed_of o)) lo_is
      ∙ ap (λ (x : Option Link). tk ++ owed_of x) is in
      record {
        begun = (
          a.begun.0 ++ bytes_of ps,
          ap (λ (xs : List ℕ). xs ++ bytes_of ps) a.begun.1
              ∙ append_assoc tk a.begun.0 (bytes_of ps)
              ∙ ap (λ (xs : List ℕ). xs ++ (a.begun.0 ++ bytes_of ps)) (sym (append-nil tk)),
        );
        whole = λ ne. elim (owes.owed) [
          | inl fits ↦ ap (λ (xs : List ℕ). xs ++ bytes_of ps) base
              ∙ append_assoc tk l.owed (bytes_of ps)
              ∙ ap (λ (xs : List ℕ). tk ++ xs) (sym fits.0) ∙ sym (target m lo_is now)
          | inr much ↦ absurd (ne (first ∙ much.1))
        ];
        bare = λ e. elim (owes.owed) [
          | inl fits ↦ absurd (fits.1 (sym first ∙ e))
          | inr much ↦ ap owed_of now ∙ much.0
        ];
        lost = inl (append-nil lo ∙ lo_is);
        has = λ n there. subst HasCause (some_is m n (sym now ∙ there)) owes.cause;
        cause = λ n there. ap (λ (x : Link). x.cause) (some_is n m (sym there ∙ now)) ∙ sym first;
        fresh = λ new. absurd (not_new m now new);
      }
    where
      target : (m : Link) → lo ≡ [] → q ≡ Some m →
          (tk ++ []) ++ ((lo ++ []) ++ owed_of q) ≡ tk ++ m.owed
      target m lo_is now = simp (append-nil, lo_is, now)

  going : (l m : Link) → o ≡ Some l → q ≡ Some m → m.owed ≡ [] → is_closed m.stage ≡ true →
      is_some m.cause ≡ true → (is_closed l.stage ≡ true → m.cause ≡ l.cause) →
      Account k later q (st ++ []) (tk ++ []) (lo ++ l.owed) (first_of y (cause_of q))
  going l m is now owed closed caused kept =
      let owed_now : owed_of q ≡ [] = ap owed_of now ∙ owed in
      record {
        begun = (
          a.begun.0,
          append-nil st ∙ a.begun.1
              ∙ ap (λ (xs : List ℕ). xs ++ a.begun.0) (sym (append-nil tk)),
        );
        whole = λ ne.
            append-nil st ∙ a.whole (first_not y (cause_of q) causes.Backlog ne)
            ∙ ap (λ (x : Option Link). tk ++ (lo ++ owed_of x)) is
            ∙ ap (λ (xs : List ℕ). tk ++ xs) (sym (append-nil (lo ++ l.owed)))
            ∙ ap (λ (xs : List ℕ). tk ++ ((lo ++ l.owed) ++ xs)) (sym owed_now)
            ∙ ap (λ (xs : List ℕ). xs ++ ((lo ++ l.owed) ++ owed_of q)) (sym (append-nil tk));
        bare = λ e. owed_now;
        lost = inr (owed_now, subst IsShut (sym now) closed);
        has = λ n there. subst HasCause (some_is m n (sym now ∙ there))
            (record { is = closed ∙ sym caused });
        cause = λ n there. ap (λ (x : Link). x.cause) (some_is n m (sym there ∙ now))
            ∙ sym (ap (λ (x : Option Link). first_of y (cause_of x)) now ∙ first);
        fresh = λ new. absurd (not_new m now new);
      }
    where
      first : first_of y m.cause ≡ m.cause
      first = step_at (is_closed l.stage) refl
        where
          step_at : (b : Bool) → is_closed l.stage ≡ b → first_of y m.cause ≡ m.cause
          step_at true t = ap (λ (x : Option Cause). first_of x m.cause)
              (sym (a.cause l is) ∙ sym (kept t)) ∙ first_same m.cause
          step_at false t = ap (λ (x : Option Cause). first_of x m.cause) (open_first l is t)

  took_some : (n : ℕ) (l m : Link) → o ≡ Some l → q ≡ Some m →
      m ≡ record l { owed = drop n l.owed } →
      Account k later q (st ++ []) (tk ++ take n l.owed) (lo ++ []) (first_of y (cause_of q))
  took_some n l m is now less =
      let first : first_of y (cause_of q) ≡ y =
      ap (λ (x : Option Link). first_of y (cause_of x)) now
      ∙ ap (λ (x : Link). first_of y x.cause) less ∙ ap (first_of y) (a.cause l is)
      ∙ first_same y in
      let owed_now : owed_of q ≡ drop n l.owed =
      ap owed_of now ∙ ap (λ (x : Link). x.owed) less in
      let owed_is : owed_of o ≡ l.owed = ap owed_of is in
      record {
        begun = elim (is_backlog y) [
          | inl much ↦ (
            a.begun.0,
            append-nil st ∙ a.begun.1
                ∙ ap (λ (xs : List ℕ). xs ++ a.begun.0) (sym (no_more n l much owed_is)),
          )
          | inr ne ↦ (
            lo ++ drop n l.owed,
            append-nil st ∙ a.whole ne ∙ ap (λ (xs : List ℕ). tk ++ (lo ++ xs)) owed_is
                ∙ moved n l owed_is,
          )
        ];
        whole = λ ne. append-nil st ∙ a.whole (λ e. ne (first ∙ e))
            ∙ ap (λ (xs : List ℕ). tk ++ (lo ++ xs)) owed_is ∙ moved n l owed_is
            ∙ ap (λ (xs : List ℕ). (tk ++ take n l.owed) ++ (lo ++ xs)) (sym owed_now)
            ∙ ap (λ (xs : List ℕ). (tk ++ take n l.owed) ++ (xs ++ owed_of q))
            (sym (append-nil lo));
        bare = λ e. owed_now ∙ ap (drop n) (sym owed_is ∙ a.bare (sym first ∙ e))
            ∙ drop_nothing n;
        lost = elim (a.lost) [
          | inl none ↦ inl (append-nil lo ∙ none)
          | inr both ↦ inr (
            owed_now ∙ ap (drop n) (sym owed_is ∙ both.0) ∙ drop_nothing n,
            subst IsShut (sym now) (subst (λ (x : Link). is_closed x.stage ≡ true) (sym less)
                (subst IsShut is both.1)),
          )
        ];
        has = λ p there. subst HasCause (sym less ∙ some_is m p (sym now ∙ there))
            (record { is = (a.has l is).is });
        cause = λ p there. ap (λ (x : Link). x.cause) (some_is p m (sym there ∙ now) ∙ less)
            ∙ a.cause l is ∙ sym first;
        fresh = λ new. absurd (not_new m now new);
      }
    where
      drop_nothing : (n : ℕ) → drop {A = ℕ} n [] ≡ []
      drop_nothing zero = refl
      drop_nothing (suc n) = refl

      take_nothing : (n : ℕ) → take {A = ℕ} n [] ≡ []
      take_nothing zero = refl
      take_nothing (suc n) = refl

      no_more : (n : ℕ) (l : Link) → y ≡ Some causes.Backlog → owed_of o ≡ l.owed →
          tk ++ take n l.owed ≡ tk
      no_more n l much owed_is = ap (λ (xs : List ℕ). tk ++ take n xs) (sym owed_is ∙ a.bare much)
          ∙ ap (λ (xs : List ℕ). tk ++ xs) (take_nothing n) ∙ append-nil tk

      moved : (n : ℕ) (l : Link) → owed_of o ≡ l.owed →
          tk ++ (lo ++ l.owed) ≡ (tk ++ take n l.owed) ++ (lo ++ drop n l.owed)
      moved n l owed_is = elim (a.lost) [
        | inl none ↦ rw none (ap (λ (xs : List ℕ). tk ++ xs) (sym (take-append-drop n l.owed))
            ∙ sym (append_assoc tk (take n l.owed) (drop n l.owed)))
        | inr both ↦ (let bare_ : l.owed ≡ [] = sym owed_is ∙ both.0 in
            rw bare_ (rw (take_nothing n, drop_nothing n, append-nil tk) refl))
      ]

  joined_now : (m : Link) → is_new k last ≡ true → q ≡ Some m → m.owed ≡ [] → HasCause m →
      Account k later q (st ++ []) (tk ++ []) (lo ++ []) (first_of y (cause_of q))
  joined_now m new now owed has =
      let f = a.fresh new in
      let owed_now : owed_of q ≡ [] = ap owed_of now ∙ owed in
      padded k later q st tk lo (first_of y (cause_of q)) (record {
        begun = a.begun;
        whole = λ ne. f.1 ∙ sym (rw (f.2, f.3, owed_now) refl);
        bare = λ e. owed_now;
        lost = inl f.3;
        has = λ n there. subst HasCause (some_is m n (sym now ∙ there)) has;
        cause = λ n there. ap (λ (x : Link). x.cause) (some_is n m (sym there ∙ now))
            ∙ sym (ap (λ (x : Option Cause). first_of x (cause_of q)) f.4 ∙ ap cause_of now);
        fresh = λ newer. absurd (not_new m now newer);
      })

  ended : (l : Link) → o ≡ Some l → is_closed l.stage ≡ true → l.owed ≡ [] → q ≡ None →
      Account k later q (st ++ []) (tk ++ []) (lo ++ []) (first_of y (cause_of q))
  ended l is closed owed now =
      let owed_now : owed_of q ≡ owed_of o = ap owed_of now ∙ sym (ap owed_of is ∙ owed) in
      let first : first_of y (cause_of q) ≡ y =
      ap (λ (x : Option Link). first_of y (cause_of x)) now ∙ first_none y in
      padded k later q st tk lo (first_of y (cause_of q))
      (subst (λ (x : Option Cause). Account k later q st tk lo x) (sym first) (record {
        begun = a.begun;
        whole = λ ne. a.whole ne ∙ ap (λ (xs : List ℕ). tk ++ (lo ++ xs)) (sym owed_now);
        bare = λ e. ap owed_of now;
        lost = inr (ap owed_of now, subst IsShut (sym now) tt);
        has = λ n there. absurd (none_some q n now there);
        cause = λ n there. absurd (none_some q n now there);
        fresh = λ new. absurd (none_some o l (a.fresh (old new)).0 is);
      }))

  account_on : (ps : List Sent) (t z : List ℕ) → Effect k last o q ps t z →
      Account k later q (st ++ bytes_of ps) (tk ++ t) (lo ++ z) (first_of y (cause_of q))
  account_on ps t z (rests same none no_take no_loss) =
      rw (none, no_take, no_loss) (rested same)
  account_on ps t z (hands l m is now open_ owes no_take no_loss) =
      rw (no_take, no_loss) (handing l m ps is now open_ owes)
  account_on ps t z (goes l m is now owed closed caused kept none no_take loss) =
      rw (none, no_take, loss) (going l m is now owed closed caused kept)
  account_on ps t z (takes n l m is now less none took_ no_loss) =
      rw (none, took_, no_loss) (took_some n l m is now less)
  account_on ps t z (joins m new gone now owed has none no_take no_loss) =
      rw (none, no_take, no_loss) (joined_now m new now owed has)
  account_on ps t z (ends l is closed owed now none no_take no_loss) =
      rw (none, no_take, no_loss) (ended l is closed owed now)

-- ---- runs

-- who may join after an event may have joined before it
pub still_new : (w : World) (o : Outcome) (k : ℕ) → Move w o → is_new k o.world.last ≡ true →
    is_new k w.last ≡ true
still_new w o k (resting is) new = subst (λ (x : Outcome). is_new k x.world.last ≡ true) is new
still_new w o k (sits j l t there walked is) new =
    subst (λ (x : Outcome). is_new k x.world.last ≡ true) is new
still_new w o k (departs j l cause there wordless is) new =
    subst (λ (x : Outcome). is_new k x.world.last ≡ true) is new
still_new w o k (taking j n l there is) new =
    subst (λ (x : Outcome). is_new k x.world.last ≡ true) is new
still_new w o k (joining_in j before is) new = (new_after k j w.last before
    (subst (λ (x : Outcome). is_new k x.world.last ≡ true) is new)).0
still_new w o k (forgetting j l there done is) new =
    subst (λ (x : Outcome). is_new k x.world.last ≡ true) is new
still_new w o k (passes is) new =
    subst (λ (x : Option ℕ). is_new k x ≡ true)
    (each_last _ (shown_all (at_tick w)) ∙ each_last _ (aged w))
    (subst (λ (x : Outcome). is_new k x.world.last ≡ true) is new)

module _ (k : ℕ) where
  along : (w : World) (events : List Event) (st tk lo : List ℕ) (y : Option Cause) →
      GoodWorld w → Account k w.last (get w.links k) st tk lo y →
      Account k (history w events).last (get (history w events).links k)
      (st ++ stream k w events) (tk ++ taken k w events) (lo ++ lost k w events)
      (first_of y (why k w events))
  along w [] st tk lo y good a = subst (λ (x : Option Cause).
      Account k w.last (get w.links k) (st ++ []) (tk ++ []) (lo ++ []) x) (sym (first_none y))
      (padded k w.last (get w.links k) st tk lo y a)
  along w (e ∷ events) st tk lo y good a =
      let v : World = (step w e).world in
      let good_too = step_good w e good in
      let next = account_on k w.last v.last (get w.links k) (get v.links k) st tk lo y a
      (still_new w (step w e) k (step_moves w e)) (good_too.fresh k)
      (to k (step w e).out) (taken_at k w e) (lost_at k w e) (effect w e k good a.has) in
      let rest = along v events (st ++ bytes_of (to k (step w e).out)) (tk ++ taken_at k w e)
      (lo ++ lost_at k w e) (first_of y (cause_in k v)) good_too next in
      regrouped w e events st tk lo y rest
    where
      regrouped : (w : World) (e : Event) (events : List Event) (st tk lo : List ℕ)
          (y : Option Cause) →
          Account k (history (step w e).world events).last
          (get (history (step w e).world events).links k)
          ((st ++ bytes_of (to k (step w e).out)) ++ stream k (step w e).world events)
          ((tk ++ taken_at k w e) ++ taken k (step w e).world events)
          ((lo ++ lost_at k w e) ++ lost k (step w e).world events)
          (first_of (first_of y (cause_in k (step w e).world)) (why k (step w e).world events)) →
          Account k (history (step w e).world events).last
          (get (history (step w e).world events).links k)
          (st ++ bytes_of (to k (step w e).out ++ handed k (step w e).world events))
          (tk ++ (taken_at k w e ++ taken k (step w e).world events))
          (lo ++ (lost_at k w e ++ lost k (step w e).world events))
          (first_of y (first_of (cause_in k (step w e).world) (why k (step w e).world events)))
      regrouped w e events st tk lo y account =
          rw (
            bytes_joined (to k (step w e).out) (handed k (step w e).world events),
            ← append_assoc st (bytes_of (to k (step w e).out)) (stream k (step w e).world events),
            ← append_assoc tk (taken_at k w e) (taken k (step w e).world events),
            ← append_assoc lo (lost_at k w e) (lost k (step w e).world events),
            ← first_again y (cause_in k (step w e).world) (why k (step w e).world events),
          ) account

nothing_yet : (k : ℕ) (start : Start) →
    Account k None (get (new_world start).links k) [] [] [] None
nothing_yet k start =
    let none : get (new_world start).links k ≡ None = get-empty nat_cmp k in
    record {
      begun = ([], refl);
      whole = λ ne. sym (ap owed_of none);
      bare = λ e. ap owed_of none;
      lost = inl refl;
      has = λ l there. absurd (none_some _ l none there);
      cause = λ l there. absurd (none_some _ l none there);
      fresh = λ new. (none, refl, refl, refl, refl);
    }

pub bytes_promised : (start : Start) (events : List Event) (k : ℕ) →
    Promised k (new_world start) events
bytes_promised start events k =
    let a = along k (new_world start) events [] [] [] None (new_good start)
    (nothing_yet k start) in
    record { begun = a.begun; whole = a.whole; closed = a.has; cause = a.cause }
