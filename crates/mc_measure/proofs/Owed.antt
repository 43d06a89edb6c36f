-- Taking what connections are owed front by front, and forgetting them one by one.
use Rattle.std.proofs.Common.{◌≡◌, ◌≢◌, ℕ, ◌+◌, ◌<◌, ◌≤◌, List, [], ◌∷◌, length, get_or, take, drop}
use Rattle.std.proofs.Common.{refl, sym, subst, ap, ◌∙◌, arith, Bool, true, false, cond}
use Rattle.std.specs.Prelude.{◌↔◌, Option, Some, None, if◌then◌else◌}
use Rattle.std.specs.List.{AllByRecursion}
use Rattle.std.specs.FinMap.{get}
use Rattle.std.proofs.lemmas.List.{drop_all, drop_more, length-drop, length-take, nil_from_length}
use Rattle.mc_model.specs.Link.{Link, is_done}
use Rattle.mc_model.specs.declared.cause.Cause.TheVariants.{Backlog}
use Rattle.mc_model.specs.Run.{cause_in, owed_in}
use Rattle.mc_model.specs.Step.{forget, forgot, step, took}
use Rattle.mc_model.specs.World.{World}
use Rattle.mc_events.specs.Asking.{is_over, pending_in}
use Rattle.mc_events.specs.Served.{ServerValue}
use Rattle.mc_events.specs.Stands.{Stands}
use Rattle.mc_measure.specs.Plays.{bytes_taken, each_owed}
use Rattle.mc_measure.specs.Settling.{NoneFull, settled, takings}
use Rattle.mc_measure.specs.Settling.{all_forgotten, all_taken, forgotten, taken, taken_of}
use Rattle.mc_measure.proofs.Full.{none_full}
use Rattle.mc_measure.proofs.Taken.{owed_after, taken_after}
use Rattle.mc_measure.proofs.Takings.{all_settled, pending_bytes}

-- ---- one connection, front by front

-- so many first bytes were taken, and they and what is left are all
pub record IsTaking (k : ℕ) (w : World) (server : ServerValue) (total : ℕ) : Type 0 where
  pub v : World
  pub stands : Stands server v
  pub same : taken k v ≡ taken k w
  pub counted : total + length (owed_in k v) ≡ length (owed_in k w)

pub taking_start : (k : ℕ) (w : World) (server : ServerValue) → Stands server w →
    IsTaking k w server 0
taking_start k w server stands = record {
  v = w;
  stands = stands;
  same = refl;
  counted = omega arith;
}

pub taking_next : (k : ℕ) (w : World) (middle server : ServerValue) (front : List ℕ)
    (total more : ℕ) → 0 < length front → more ≡ total + length front →
    ((v : World) → Stands middle v → take (length front) (owed_in k v) ≡ front) →
    ((v : World) → Stands middle v → Stands server (step v (took k (length front))).world) →
    IsTaking k w middle total → IsTaking k w server more
taking_next k w middle server front total more some is first took_ t =
    let o : List ℕ = owed_in k t.v in
    let n : ℕ = length front in
    let few : n ≤ length o = within o front (first t.v t.stands) in
    let so_far = t.counted in
    record {
      v = (step t.v (took k n)).world;
      stands = took_ t.v t.stands;
      same = taken_after t.v k n some few ∙ t.same;
      counted = omega (
        arith,
        is,
        few,
        so_far,
        length-drop n o,
        ap length (owed_after t.v k n),
      );
    }
  where
    within : (o front : List ℕ) → take (length front) o ≡ front → length front ≤ length o
    within o front first = omega (arith, ap length first, length-take (length front) o)

pub taking_done : (k : ℕ) (w : World) (server : ServerValue) (front : List ℕ) (total : ℕ) →
    length front ≡ 0 →
    ((v : World) → Stands server v → (front ≡ []) ↔ (owed_in k v ≡ [])) →
    IsTaking k w server total →
    Stands server (taken k w) × (total ≡ length (owed_in k w))
taking_done k w server front total none empty t =
    let owed : owed_in k t.v ≡ [] = (empty t.v t.stands).0 (nil_from_length front none) in
    let so_far = t.counted in (
      subst (Stands server) (sym (ap (taken_of k t.v) owed) ∙ t.same) t.stands,
      omega (arith, so_far, ap length owed),
    )

-- ---- connection by connection

-- some took all, and the bytes of these and of the others are all
pub record AreTaking (ks rest : List ℕ) (w : World) (server : ServerValue) (total : ℕ)
    : Type 0 where
  pub v : World
  pub stands : Stands server v
  pub same : all_taken rest v ≡ all_taken ks w
  pub counted : total + each_owed rest v ≡ each_owed ks w

pub all_start : (ks : List ℕ) (w : World) (server : ServerValue) → Stands server w →
    AreTaking ks ks w server 0
all_start ks w server stands = record {
  v = w;
  stands = stands;
  same = refl;
  counted = omega arith;
}

all_step : (ks : List ℕ) (k : ℕ) (rest : List ℕ) (w : World) (middle server : ServerValue)
    (total count more : ℕ) → more ≡ total + count → ((v : World) → Stands middle v →
    Stands server (taken k v) × (count ≡ length (owed_in k v))) →
    AreTaking ks (k ∷ rest) w middle total → AreTaking ks rest w server more
all_step ks k rest w middle server total count more is takes t =
    let here = takes t.v t.stands in
    let so_far = t.counted in
    let now = here.1 in
    record {
      v = taken k t.v;
      stands = here.0;
      same = t.same;
      counted = omega (arith, is, so_far, now);
    }

pub all_next : (ks : List ℕ) (i d : ℕ) (w : World) (middle server : ServerValue)
    (total count more : ℕ) → i < length ks → more ≡ total + count → ((v : World) →
    Stands middle v →
    Stands server (taken (get_or ks i d) v) × (count ≡ length (owed_in (get_or ks i d) v))) →
    AreTaking ks (drop i ks) w middle total → AreTaking ks (drop (i + 1) ks) w server more
all_next ks i d w middle server total count more within is takes t =
    all_step ks (get_or ks i d) (drop (i + 1) ks) w middle server total count more is takes
    (subst (λ (rest : List ℕ). AreTaking ks rest w middle total) (drop_more ks i d within) t)

pub all_done : (ks : List ℕ) (i : ℕ) (w : World) (server : ServerValue) (total : ℕ) →
    length ks ≤ i → AreTaking ks (drop i ks) w server total →
    Stands server (all_taken ks w) × (total ≡ each_owed ks w)
all_done ks i w server total past t =
    let none = drop_all i ks past in
    let so_far = t.counted in (
      subst (Stands server) (sym (ap (λ (rest : List ℕ). all_taken rest t.v) none) ∙ t.same)
          t.stands,
      omega (arith, so_far, ap (λ (rest : List ℕ). each_owed rest t.v) none),
    )

-- ---- forgetting

one_forgotten : (w : World) (k : ℕ) (o : Option Link) →
    forget w k o ≡ (if is_over o then forget w k o else w)
one_forgotten w k None = refl
one_forgotten w k (Some l) = twice (is_done l) _
  where
    twice : (b : Bool) (v : World) → cond b v w ≡ cond b (cond b v w) w
    twice true v = refl
    twice false v = refl

forgot_is : (w : World) (k : ℕ) → (step w (forgot k)).world ≡ forgotten k w
unfolding step
forgot_is w k = one_forgotten w k (get w.links k)

-- some were forgotten, and the others are left
pub record AreForgetting (ks rest : List ℕ) (w : World) (server : ServerValue) : Type 0 where
  pub v : World
  pub stands : Stands server v
  pub same : all_forgotten rest v ≡ all_forgotten ks w

pub forgetting_start : (ks : List ℕ) (w : World) (server : ServerValue) → Stands server w →
    AreForgetting ks ks w server
forgetting_start ks w server stands = record { v = w; stands = stands; same = refl }

forgetting_step : (ks : List ℕ) (k : ℕ) (rest : List ℕ) (w : World)
    (middle server : ServerValue) →
    ((v : World) → Stands middle v → Stands server (step v (forgot k)).world) →
    AreForgetting ks (k ∷ rest) w middle → AreForgetting ks rest w server
forgetting_step ks k rest w middle server forgets t = record {
  v = forgotten k t.v;
  stands = subst (Stands server) (forgot_is t.v k) (forgets t.v t.stands);
  same = t.same;
}

pub forgetting_next : (ks : List ℕ) (i d : ℕ) (w : World) (middle server : ServerValue) →
    i < length ks → ((v : World) → Stands middle v →
    Stands server (step v (forgot (get_or ks i d))).world) →
    AreForgetting ks (drop i ks) w middle → AreForgetting ks (drop (i + 1) ks) w server
forgetting_next ks i d w middle server within forgets t =
    forgetting_step ks (get_or ks i d) (drop (i + 1) ks) w middle server forgets
    (subst (λ (rest : List ℕ). AreForgetting ks rest w middle) (drop_more ks i d within) t)

pub forgetting_done : (ks : List ℕ) (i : ℕ) (w : World) (server : ServerValue) →
    length ks ≤ i → AreForgetting ks (drop i ks) w server → Stands server (all_forgotten ks w)
forgetting_done ks i w server past t =
    subst (Stands server) (sym (ap (λ (rest : List ℕ). all_forgotten rest t.v)
    (drop_all i ks past)) ∙ t.same) t.stands

-- ---- all of it

-- the server stands for the settled world, the bytes were counted, and no outbox was too small
pub settled_by : (w : World) (before server : ServerValue) (is js ks : List ℕ) (count : ℕ) →
    Stands before w → is ≡ pending_in w → js ≡ pending_in w → ks ≡ pending_in w →
    AllByRecursion (λ (k : ℕ). cause_in k w ≢ Some Backlog) is → count ≡ each_owed js w →
    Stands server (all_forgotten ks (all_taken js w)) →
    Stands server (settled w) × (count ≡ bytes_taken w (takings w)) × NoneFull w
settled_by w before server is js ks count now one two three none counted stands = (
  subst (Stands server) (ap (λ (ks : List ℕ). all_forgotten ks (all_taken js w)) three
      ∙ ap (λ (js : List ℕ). all_forgotten (pending_in w) (all_taken js w)) two
      ∙ all_settled w) stands,
  counted ∙ ap (λ (js : List ℕ). each_owed js w) two ∙ pending_bytes w,
  none_full w now.reached
      (subst (AllByRecursion (λ (k : ℕ). cause_in k w ≢ Some Backlog)) one none),
)
