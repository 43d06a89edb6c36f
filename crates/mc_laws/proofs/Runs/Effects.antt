-- What an event makes of one connection: what it is handed, what it takes and what is lost of it.
use Rattle.std.proofs.Common.{◌≡◌, ◌≢◌, ℕ, zero, suc, Bool, true, false, List, [], ◌∷◌, length}
use Rattle.std.proofs.Common.{Option, Some, None, refl, sym, subst, ap, ◌∙◌, inl, inr, drop, take}
use Rattle.std.proofs.Common.{arith}
use Rattle.std.specs.Prelude.{◌==◌, nat_le, is_some, map, option_map, if◌then◌else◌}
use Rattle.std.proofs.lemmas.Bool.{cases_eq, eq-eqb, ne_eqb, and_parts, leb-true}
use Rattle.std.proofs.lemmas.List.{append-nil}
use Rattle.std.specs.FinMap.{get, insert, remove}
use Rattle.mc_model.specs.declared.cause.Cause.{Cause}
use Rattle.mc_model.specs.declared.cause.Cause.TheVariants as causes
use Rattle.mc_model.specs.declared.player.Player.{Player}
use Rattle.mc_model.specs.Packets.{Sent, of_play}
use Rattle.mc_model.specs.Run.{to, lost_at, owed_in, owed_of, taken_at}
use Rattle.mc_model.specs.Step.{Event, joined, came, left, broke, ticked, took, forgot, is_new}
use Rattle.mc_model.specs.Step.{depart, forget, is_crowded, join, joining, on_bytes, step}
use Rattle.mc_model.specs.Step.{take_from}
use Rattle.mc_model.specs.Talk.{farewell}
use Rattle.mc_model.specs.Stages.{is_closed}
use Rattle.mc_model.specs.Link.{Handing, Link, disconnect, gone, hand, is_done, mark_closed}
use Rattle.mc_model.specs.Link.{new_link}
use Rattle.mc_model.specs.Showing.{due}
use Rattle.mc_model.specs.World.{Seat, Turn, World, on_link, on_seat, seat_of}
use Rattle.mc_model.specs.Tick.{at_tick, awaiting, grown, tick, tick_hands}
use Rattle.mc_model.specs.Good.{GoodWorld, in_play}
use Rattle.mc_model.specs.Promised.{HasCause}
use Rattle.mc_model.proofs.Maps.Lookups.{gone_other, gone_same, put_other, put_same}
use Rattle.mc_laws.proofs.Walk.Handings.{not_in_play}
use Rattle.mc_laws.proofs.Walk.Moves.{bytes_walk, walked_keeps}
use Rattle.mc_laws.proofs.Walk.Ticking.{after_tick, tick_cases, tick_handed, tick_link}
use Rattle.mc_laws.proofs.Apart.Outs.{handed_by, to_other, to_own}
use Rattle.mc_laws.proofs.Runs.Owing.{Owes, handed_owes, owes_kept}

-- what is left of a link once what it did is handed out, taken and lost
pub data Effect (k : ℕ) (last : Option ℕ) (o q : Option Link) (ps : List Sent)
    (taken lost : List ℕ) : Type 0 where
  -- nothing
  rests : q ≡ o → ps ≡ [] → taken ≡ [] → lost ≡ [] → Effect k last o q ps taken lost
  -- an open one is handed something
  hands : (l m : Link) → o ≡ Some l → q ≡ Some m → is_closed l.stage ≡ false → Owes l m ps →
      taken ≡ [] → lost ≡ [] → Effect k last o q ps taken lost
  -- it goes
  goes : (l m : Link) → o ≡ Some l → q ≡ Some m → m.owed ≡ [] → is_closed m.stage ≡ true →
      is_some m.cause ≡ true → (is_closed l.stage ≡ true → m.cause ≡ l.cause) →
      ps ≡ [] → taken ≡ [] → lost ≡ l.owed → Effect k last o q ps taken lost
  -- it takes something
  takes : (n : ℕ) (l m : Link) → o ≡ Some l → q ≡ Some m → m ≡ record l { owed = drop n l.owed } →
      ps ≡ [] → taken ≡ take n l.owed → lost ≡ [] → Effect k last o q ps taken lost
  -- it joins
  joins : (m : Link) → is_new k last ≡ true → o ≡ None → q ≡ Some m → m.owed ≡ [] → HasCause m →
      ps ≡ [] → taken ≡ [] → lost ≡ [] → Effect k last o q ps taken lost
  -- it is forgotten
  ends : (l : Link) → o ≡ Some l → is_closed l.stage ≡ true → l.owed ≡ [] → q ≡ None →
      ps ≡ [] → taken ≡ [] → lost ≡ [] → Effect k last o q ps taken lost

-- ---- of others

-- of an event of another nothing comes
abbrev Result : ℕ → World → Event → Type 0
Result k w e = Effect k w.last (get w.links k) (get (step w e).world.links k)
    (to k (step w e).out) (taken_at k w e) (lost_at k w e)

pub seat_rests : (w : World) (k j : ℕ) (f : Seat → Turn) → j ≢ k →
    (get (on_seat w j f).world.links k ≡ get w.links k) × (to k (on_seat w j f).out ≡ [])
seat_rests w k j f ne = at_link (get w.links j)
  where
    at_link : (o : Option Link) → (get (on_link w j f o).world.links k ≡ get w.links k)
        × (to k (on_link w j f o).out ≡ [])
    at_link None = (refl, refl)
    at_link (Some l) = (
      put_other w.links j k (f (seat_of w j l)).seat.link (λ same. ne (sym same)),
      to_other j k (f (seat_of w j l)).handed (λ same. ne (sym same)),
    )

not_own : (j k : ℕ) (xs : List ℕ) → j ≢ k → (if j == k then xs else []) ≡ []
not_own j k xs ne = rw (ne_eqb j k ne) refl

own : (k : ℕ) (xs : List ℕ) → (if k == k then xs else []) ≡ xs
own k xs = rw (eq-eqb k k refl) refl

-- ---- its own

-- an open one has no cause
pub no_cause : (l : Link) → HasCause l → is_closed l.stage ≡ false → l.cause ≡ None
no_cause l h open_ = none_of l.cause (sym h.is ∙ open_)
  where
    none_of : (o : Option Cause) → is_some o ≡ false → o ≡ None
    none_of None e = refl
    none_of (Some c) e = absurd cc

not_backlog : (o : Option Cause) → o ≡ None → o ≢ Some causes.Backlog
not_backlog o none is = (let clash : ◌≡◌ {A = Option Cause} None (Some causes.Backlog) =
    sym none ∙ is in cc)

pub owes_first : (l : Link) → HasCause l → is_closed l.stage ≡ false → Owes l l []
owes_first l cause open_ = record {
  owed = inl (sym (append-nil l.owed), not_backlog l.cause (no_cause l cause open_));
  cause = cause;
}

pub seat_own : (w : World) (k : ℕ) (l : Link) (f : Seat → Turn) → get w.links k ≡ Some l →
    (get (on_seat w k f).world.links k ≡ Some (f (seat_of w k l)).seat.link)
    × (to k (on_seat w k f).out ≡ (f (seat_of w k l)).handed)
seat_own w k l f there = subst (λ (o : Option Link).
    (get (on_link w k f o).world.links k ≡ Some (f (seat_of w k l)).seat.link)
    × (to k (on_link w k f o).out ≡ (f (seat_of w k l)).handed)) (sym there) (
      put_same w.links k (f (seat_of w k l)).seat.link,
      to_own k (f (seat_of w k l)).handed,
    )

seat_away : (w : World) (k : ℕ) (f : Seat → Turn) → get w.links k ≡ None →
    (get (on_seat w k f).world.links k ≡ get w.links k) × (to k (on_seat w k f).out ≡ [])
seat_away w k f none = subst (λ (o : Option Link).
    (get (on_link w k f o).world.links k ≡ get w.links k)
    × (to k (on_link w k f o).out ≡ [])) (sym none) (refl, refl)

-- bytes that come to one that is closed do nothing
closed_bytes : (k : ℕ) (s : Seat) (bytes : List ℕ) → is_closed s.link.stage ≡ true →
    ((on_bytes k s bytes).seat.link ≡ s.link) × ((on_bytes k s bytes).handed ≡ [])
unfolding on_bytes
closed_bytes k s bytes closed = (rw closed refl, rw closed refl)

-- whoever goes is closed with a cause, and owed nothing
record HasGone (l m : Link) : Type 0 where
  owed : m.owed ≡ []
  closed : is_closed m.stage ≡ true
  cause : is_some m.cause ≡ true
  kept : is_closed l.stage ≡ true → m.cause ≡ l.cause

has_gone : (cause : Cause) (l : Link) → HasCause l → HasGone l (gone cause l)
has_gone cause l h = step_at (is_closed l.stage) refl
  where
    step_at : (b : Bool) → is_closed l.stage ≡ b → HasGone l (if b then record l { owed = [] }
        else record (mark_closed l cause) { owed = [] })
    step_at true t = record {
      owed = refl;
      closed = t;
      cause = sym h.is ∙ t;
      kept = λ closed. refl;
    }
    step_at false t = record {
      owed = refl;
      closed = refl;
      cause = refl;
      kept = λ closed. (let clash : false ≡ true = sym t ∙ closed in absurd cc);
    }

joining_has : (w : World) → (HasCause (joining w)) × ((joining w).owed ≡ [])
joining_has w = elim (is_crowded w) as
    (λ b. HasCause (if b then mark_closed new_link causes.Crowded else new_link)
    × ((if b then mark_closed new_link causes.Crowded else new_link).owed ≡ [])) [
      | true ↦ (record { is = refl }, refl)
      | false ↦ (record { is = refl }, refl)
    ]

no_bytes : (xs : List ℕ) → nat_le (length xs) 0 ≡ true → xs ≡ []
no_bytes [] t = refl
no_bytes (x ∷ xs) t = absurd (omega (arith, leb-true (length (x ∷ xs)) 0 t))

bytes_effect : (w : World) (k : ℕ) (bytes : List ℕ) →
    ((l : Link) → get w.links k ≡ Some l → HasCause l) →
    Effect k w.last (get w.links k)
    (get (on_seat w k (λ (s : Seat). on_bytes k s bytes)).world.links k)
    (to k (on_seat w k (λ (s : Seat). on_bytes k s bytes)).out) [] []
bytes_effect w k bytes has = at_link (get w.links k) refl
  where
    at_stage : (b : Bool) (l : Link) → is_closed l.stage ≡ b → get w.links k ≡ Some l →
        Effect k w.last (get w.links k)
        (get (on_seat w k (λ (s : Seat). on_bytes k s bytes)).world.links k)
        (to k (on_seat w k (λ (s : Seat). on_bytes k s bytes)).out) [] []
    at_stage true l t is =
        let a = seat_own w k l (λ (s : Seat). on_bytes k s bytes) is in
        let c = closed_bytes k (seat_of w k l) bytes t in
        rests (a.0 ∙ ap Some c.0 ∙ sym is) (a.1 ∙ c.1) refl refl
    at_stage false l t is =
        let a = seat_own w k l (λ (s : Seat). on_bytes k s bytes) is in
        hands l (on_bytes k (seat_of w k l) bytes).seat.link is a.0 t
        (subst (λ (ps : List Sent). Owes l (on_bytes k (seat_of w k l) bytes).seat.link ps)
        (sym a.1) (walked_keeps k (λ (s : Seat) ps. Owes l s.link ps) (owes_kept k l)
        (seat_of w k l) (on_bytes k (seat_of w k l) bytes) [] (bytes_walk k (seat_of w k l) bytes)
        (owes_first l (has l is) t))) refl refl

    at_link : (o : Option Link) → get w.links k ≡ o → Effect k w.last (get w.links k)
        (get (on_seat w k (λ (s : Seat). on_bytes k s bytes)).world.links k)
        (to k (on_seat w k (λ (s : Seat). on_bytes k s bytes)).out) [] []
    at_link None is = (let a = seat_away w k (λ (s : Seat). on_bytes k s bytes) is in
        rests a.0 a.1 refl refl)
    at_link (Some l) is = at_stage (is_closed l.stage) l refl is

gone_effect : (w : World) (k : ℕ) (cause : Cause) →
    ((l : Link) → get w.links k ≡ Some l → HasCause l) →
    Effect k w.last (get w.links k) (get (on_seat w k (depart k cause)).world.links k)
    (to k (on_seat w k (depart k cause)).out) [] (owed_in k w)
gone_effect w k cause has = at_link (get w.links k) refl
  where
    at_link : (o : Option Link) → get w.links k ≡ o →
        Effect k w.last (get w.links k) (get (on_seat w k (depart k cause)).world.links k)
        (to k (on_seat w k (depart k cause)).out) [] (owed_in k w)
    at_link None is = (let a = seat_away w k (depart k cause) is in
        rests a.0 a.1 refl (ap owed_of is))
    at_link (Some l) is =
        (let a = seat_own w k l (depart k cause) is in
        let g = has_gone cause l (has l is) in
        goes l (gone cause l) is a.0 g.owed g.closed g.cause g.kept a.1 refl
        (ap owed_of is))

take_nothing : (n : ℕ) → take {A = ℕ} n [] ≡ []
take_nothing zero = refl
take_nothing (suc n) = refl

taken_effect : (w : World) (k n : ℕ) →
    Effect k w.last (get w.links k) (get (on_seat w k (take_from n)).world.links k)
    (to k (on_seat w k (take_from n)).out) (take n (owed_in k w)) []
taken_effect w k n = at_link (get w.links k) refl
  where
    at_link : (o : Option Link) → get w.links k ≡ o →
        Effect k w.last (get w.links k) (get (on_seat w k (take_from n)).world.links k)
        (to k (on_seat w k (take_from n)).out) (take n (owed_in k w)) []
    at_link None is = (let a = seat_away w k (take_from n) is in
        rests a.0 a.1 (ap (λ (o : Option Link). take n (owed_of o)) is
        ∙ take_nothing n) refl)
    at_link (Some l) is =
        (let a = seat_own w k l (take_from n) is in
        takes n l (record l { owed = drop n l.owed }) is a.0 refl a.1
        (ap (λ (o : Option Link). take n (owed_of o)) is) refl)

joins_effect : (w : World) (k : ℕ) → GoodWorld w → Effect k w.last (get w.links k)
    (get (join w k).links k) [] [] []
joins_effect w k good = at_new (is_new k w.last) refl
  where
    at_new : (b : Bool) → is_new k w.last ≡ b → Effect k w.last (get w.links k)
        (get (if b then record w { last = Some k; links = insert w.links k (joining w) }
        else w).links k) [] [] []
    at_new true t = (let h = joining_has w in joins (joining w) t (good.fresh k t)
        (put_same w.links k (joining w)) h.1 h.0 refl refl refl)
    at_new false t = rests refl refl refl refl

forgets_effect : (w : World) (k : ℕ) → Effect k w.last (get w.links k)
    (get (forget w k (get w.links k)).links k) [] [] []
forgets_effect w k = at_link (get w.links k) refl
  where
    at_done : (b : Bool) (l : Link) → is_done l ≡ b → get w.links k ≡ Some l →
        Effect k w.last (get w.links k) (get (if b then record w {
          links = remove w.links k;
          unread = remove w.unread k;
          shown = remove w.shown k;
        } else w).links k) [] [] []
    at_done true l t is =
        (let parts = and_parts (is_closed l.stage) (nat_le (length l.owed) 0) t in
        ends l is parts.0 (no_bytes l.owed parts.1) (gone_same w.links k) refl refl refl)
    at_done false l t is = rests refl refl refl refl

    at_link : (o : Option Link) → get w.links k ≡ o → Effect k w.last (get w.links k)
        (get (forget w k o).links k) [] [] []
    at_link None is = rests refl refl refl refl
    at_link (Some l) is = at_done (is_done l) l refl is

-- ---- a tick

tick_effect : (w : World) (k : ℕ) → GoodWorld w →
    ((l : Link) → get w.links k ≡ Some l → HasCause l) →
    Effect k w.last (get w.links k) (get (tick w).world.links k) (to k (tick w).out) [] []
tick_effect w k good has = at_link (get w.links k) refl
  where
    opens : (l : Link) → get w.links k ≡ Some l → (p : Player) → get w.game.players k ≡ Some p →
        is_closed l.stage ≡ false
    opens l is p there = step_at (is_closed l.stage) refl
      where
        step_at : (b : Bool) → is_closed l.stage ≡ b → b ≡ false
        step_at true t = (let clash : true ≡ false = sym (ap is_some there) ∙ good.plays k
            ∙ ap in_play is ∙ not_in_play l.stage t in absurd cc)
        step_at false t = refl

    about : (l : Link) → get w.links k ≡ Some l → Handing → Type 0
    about l is h = Effect k w.last (get w.links k) (Some h.link) h.handed [] []

    at_link : (o : Option Link) → get w.links k ≡ o →
        Effect k w.last (get w.links k) (get (tick w).world.links k) (to k (tick w).out) [] []
    at_link None is = rests
        (tick_link w k ∙ ap (option_map (λ (l : Link). (after_tick w k l).link)) is ∙ sym is)
        (tick_handed w k ∙ ap (handed_by (λ (j : ℕ) (l : Link). tick_hands w j l) k) is) refl refl
    at_link (Some l) is =
        let q = tick_link w k
        ∙ ap (option_map (λ (l : Link). (after_tick w k l).link)) is in
        let ps = tick_handed w k
        ∙ ap (handed_by (λ (j : ℕ) (l : Link). tick_hands w j l) k) is in
        let e : Effect k w.last (get w.links k) (Some (after_tick w k l).link)
        (after_tick w k l).handed [] [] =
        tick_cases w k l
        (λ (h : Handing). Effect k w.last (get w.links k) (Some h.link) h.handed [] []) is
        (λ none. rests (sym is) refl refl refl)
        (opens l is)
        (λ p there quiet_. hands l
        (disconnect l causes.Silent (farewell l.stage causes.Silent)).link is refl
        (opens l is p there)
        (handed_owes l l (mark_closed l causes.Silent) [] (farewell l.stage causes.Silent)
        (sym (append-nil l.owed)) refl (λ e. cc) (record { is = refl })) refl refl)
        (λ p there speaks. hands l
        (hand (awaiting (grown w.game) (get w.shown k) l)
        (map of_play (due (at_tick w).game (get w.shown k) p))).link is refl (opens l is p there)
        (handed_owes l l (awaiting (grown w.game) (get w.shown k) l) []
        (map of_play (due (at_tick w).game (get w.shown k) p))
        (sym (append-nil l.owed)) refl
        (not_backlog l.cause (no_cause l (has l is) (opens l is p there)))
        (record { is = (has l is).is })) refl refl) in
        rw (q, ps) e

-- ---- any event

pub effect : (w : World) (e : Event) (k : ℕ) → GoodWorld w →
    ((l : Link) → get w.links k ≡ Some l → HasCause l) → Result k w e
unfolding step
effect w (joined j) k good has = elim (cases_eq j k) [
  | inl same ↦ subst (λ (n : ℕ). Effect k w.last (get w.links k) (get (join w n).links k)
      [] [] []) (sym same) (joins_effect w k good)
  | inr ne ↦ rests (elim (is_new j w.last) as (λ b. get (if b
      then record w { last = Some j; links = insert w.links j (joining w) } else w).links k
      ≡ get w.links k) [
        | true ↦ put_other w.links j k (joining w) (λ same. ne (sym same))
        | false ↦ refl
      ]) refl refl refl
]
effect w (came j bytes) k good has = elim (cases_eq j k) [
  | inl same ↦ subst (λ (n : ℕ). Effect k w.last (get w.links k)
      (get (on_seat w n (λ (s : Seat). on_bytes n s bytes)).world.links k)
      (to k (on_seat w n (λ (s : Seat). on_bytes n s bytes)).out) [] []) (sym same)
      (bytes_effect w k bytes has)
  | inr ne ↦ (let a = seat_rests w k j (λ (s : Seat). on_bytes j s bytes) ne in
      rests a.0 a.1 refl refl)
]
effect w (left j) k good has = elim (cases_eq j k) [
  | inl same ↦ subst (λ (n : ℕ). Effect k w.last (get w.links k)
      (get (on_seat w n (depart n causes.Gone)).world.links k)
      (to k (on_seat w n (depart n causes.Gone)).out) [] (if n == k then owed_in k w else []))
      (sym same) (rw (own k (owed_in k w)) (gone_effect w k causes.Gone has))
  | inr ne ↦ (let a = seat_rests w k j (depart j causes.Gone) ne in
      rests a.0 a.1 refl (not_own j k (owed_in k w) ne))
]
effect w (broke j) k good has = elim (cases_eq j k) [
  | inl same ↦ subst (λ (n : ℕ). Effect k w.last (get w.links k)
      (get (on_seat w n (depart n causes.Broke)).world.links k)
      (to k (on_seat w n (depart n causes.Broke)).out) [] (if n == k then owed_in k w else []))
      (sym same) (rw (own k (owed_in k w)) (gone_effect w k causes.Broke has))
  | inr ne ↦ (let a = seat_rests w k j (depart j causes.Broke) ne in
      rests a.0 a.1 refl (not_own j k (owed_in k w) ne))
]
effect w ticked k good has = tick_effect w k good has
effect w (took j n) k good has = elim (cases_eq j k) [
  | inl same ↦ subst (λ (m : ℕ). Effect k w.last (get w.links k)
      (get (on_seat w m (take_from n)).world.links k)
      (to k (on_seat w m (take_from n)).out) (if m == k then take n (owed_in k w) else []) [])
      (sym same) (rw (own k (take n (owed_in k w))) (taken_effect w k n))
  | inr ne ↦ (let a = seat_rests w k j (take_from n) ne in
      rests a.0 a.1 (not_own j k (take n (owed_in k w)) ne) refl)
]
effect w (forgot j) k good has = elim (cases_eq j k) [
  | inl same ↦ subst (λ (n : ℕ). Effect k w.last (get w.links k)
      (get (forget w n (get w.links n)).links k) [] [] []) (sym same) (forgets_effect w k)
  | inr ne ↦ rests (at_link (get w.links j) ne) refl refl refl
]
  where
    at_link : (o : Option Link) → j ≢ k → get (forget w j o).links k ≡ get w.links k
    at_link None ne = refl
    at_link (Some l) ne = elim (is_done l) as (λ b. get (if b then record w {
      links = remove w.links j;
      unread = remove w.unread j;
      shown = remove w.shown j;
    } else w).links k ≡ get w.links k) [
      | true ↦ gone_other w.links j k (λ same. ne (sym same))
      | false ↦ refl
    ]
