-- Each event closes just the connections that it has a cause to close, each for that.
use Rattle.std.proofs.Common.{◌≡◌, ◌≢◌, ℕ, Bool, true, false, List, ◌++◌, map, Option, Some, None}
use Rattle.std.proofs.Common.{refl, sym, subst, ap, ◌∙◌, inl, inr, length}
use Rattle.std.specs.Prelude.{◌↔◌, is_some, option_map, if◌then◌else◌}
use Rattle.std.specs.Option.{option_and_then}
use Rattle.std.proofs.lemmas.Bool.{cases_eq}
use Rattle.std.specs.FinMap.{get, insert, remove}
use Rattle.mc_model.specs.declared.cause.Cause.{Cause}
use Rattle.mc_model.specs.declared.cause.Cause.TheVariants as causes
use Rattle.mc_model.specs.declared.player.Player.{Player}
use Rattle.mc_model.specs.Cutting.{cut_of}
use Rattle.mc_model.specs.Packets.{of_play}
use Rattle.mc_model.specs.Step.{Event, joined, came, left, broke, ticked, took, forgot, is_new}
use Rattle.mc_model.specs.Step.{depart, forget, is_crowded, join, joining, on_bytes, read_to, step}
use Rattle.mc_model.specs.Step.{take_from}
use Rattle.mc_model.specs.Talk.{farewell}
use Rattle.mc_model.specs.Link.{Handing, Link, is_done, mark_closed, new_link}
use Rattle.mc_model.specs.Showing.{due}
use Rattle.mc_model.specs.World.{Seat, Turn, World, on_link, on_seat, seat_of}
use Rattle.mc_model.specs.Tick.{at_tick, awaiting, grown, is_silent, tick}
use Rattle.mc_model.specs.Run.{cause_in}
use Rattle.mc_model.specs.Good.{GoodWorld}
use Rattle.mc_model.specs.Promised.{HasCause}
use Rattle.mc_model.specs.Causes.{BytesClose, Closes, IsOpen, TickCloses}
use Rattle.mc_model.proofs.Maps.Options.{none_some, some_is}
use Rattle.mc_model.proofs.Maps.Lookups.{gone_other, gone_same, put_other, put_same}
use Rattle.mc_laws.proofs.Walk.Ticking.{after_tick, tick_cases, tick_link}
use Rattle.mc_laws.proofs.Runs.Effects.{seat_own, seat_rests}
use Rattle.mc_laws.proofs.Runs.Closings.{frames_close, hand_closes, last_closes}

abbrev cause_of : Option Link → Option Cause
cause_of o = option_and_then (λ (l : Link). l.cause) o

-- neither comes
neither : {A B : Type 0} → (A → ⊥) → (B → ⊥) → (A ↔ B)
neither no_a no_b = (λ a. absurd (no_a a), λ b. absurd (no_b b))

module _ (w : World) (k : ℕ) (c : Cause) (none : cause_in k w ≡ None)
    (has : (l : Link) → get w.links k ≡ Some l → HasCause l) where
  -- a link that is as it was has no cause
  unchanged : (o : Option Link) → o ≡ get w.links k → cause_of o ≡ Some c → ⊥
  unchanged o same e = none_some (cause_in k w) c none (ap cause_of (sym same) ∙ e)

  -- one that is there is open
  opens : (l : Link) → get w.links k ≡ Some l → IsOpen w k l
  opens l is = record {
    is_there = is;
    open_ = (has l is).is ∙ ap is_some (ap cause_of (sym is) ∙ none);
  }

  same_link : (l m : Link) → get w.links k ≡ Some l → get w.links k ≡ Some m → l ≡ m
  same_link l m is too = some_is l m (sym is ∙ too)

  -- ---- joining

  joins : (cause_in k (join w k) ≡ Some c
      ↔ ((is_new k w.last ≡ true) × (is_crowded w ≡ true) × (c ≡ causes.Crowded)))
  joins = at_new (is_new k w.last) refl
    where
      crowd : (b : Bool) → ((if b then mark_closed new_link causes.Crowded else new_link).cause
          ≡ Some c ↔ ((b ≡ true) × (c ≡ causes.Crowded)))
      crowd true = (
        λ e. (refl, sym (some_is causes.Crowded c e)),
        λ both. ap Some (sym both.1),
      )
      crowd false = (λ e. absurd cc, λ both. (let clash = both.0 in absurd cc))

      at_new : (b : Bool) → is_new k w.last ≡ b →
          (cause_of (get (if b
          then record w { last = Some k; links = insert w.links k (joining w) }
          else w).links k) ≡ Some c
          ↔ ((is_new k w.last ≡ true) × (is_crowded w ≡ true) × (c ≡ causes.Crowded)))
      at_new true t =
          let x = crowd (is_crowded w) in (
            λ e. (let both = x.0 (sym (ap cause_of (put_same w.links k (joining w))) ∙ e) in
                (t, both.0, both.1)),
            λ all. ap cause_of (put_same w.links k (joining w)) ∙ x.1 (all.1, all.2),
          )
      at_new false t = neither (λ e. none_some (cause_in k w) c none e)
          (λ all. (let clash : false ≡ true = sym t ∙ all.0 in cc))

  -- ---- one's own event, where it is there

  own : (f : Seat → Turn) (Q : Link → Type 0) →
      ((l : Link) → IsOpen w k l → ((f (seat_of w k l)).seat.link.cause ≡ Some c ↔ Q l)) →
      (cause_in k (on_seat w k f).world ≡ Some c ↔ ((l : Link) × IsOpen w k l × Q l))
  own f Q does = at_link (get w.links k) refl
    where
      at_link : (o : Option Link) → get w.links k ≡ o →
          (cause_in k (on_seat w k f).world ≡ Some c ↔ ((l : Link) × IsOpen w k l × Q l))
      at_link None is = neither
          (λ e. none_some (cause_in k w) c none
          (subst (λ (o : Option Link). cause_in k (on_link w k f o).world ≡ Some c) is e))
          (λ all. none_some (get w.links k) all.0 is all.1.is_there)
      at_link (Some l) is =
          let o = opens l is in
          let a = (seat_own w k l f is).0 in
          let d = does l o in (
            λ e. (l, o, d.0 (sym (ap cause_of a) ∙ e)),
            λ all. ap cause_of a ∙ d.1 (subst (λ (x : Link). Q x)
                (same_link all.0 l all.1.is_there is) all.2),
          )

  bytes_own : (bytes : List ℕ) (l : Link) → IsOpen w k l →
      ((on_bytes k (seat_of w k l) bytes).seat.link.cause ≡ Some c
      ↔ BytesClose k (seat_of w k l) bytes c)
  unfolding on_bytes
  bytes_own bytes l o =
      let s = seat_of w k l in
      let count = length (s.unread.rest ++ bytes) in
      let cut = cut_of s.unread.before (s.unread.rest ++ bytes) in
      rw o.open_ (frames_close k cut.frames (read_to s cut count) cut.fault c o.open_
      (has l o.is_there))

  gone_own : (cause : Cause) (l : Link) → IsOpen w k l →
      ((depart k cause (seat_of w k l)).seat.link.cause ≡ Some c ↔ (c ≡ cause))
  gone_own cause l o = rw o.open_ (λ e. sym (some_is cause c e), λ is. ap Some (sym is))

  -- ---- a tick

  tick_own : GoodWorld w → (cause_in k (tick w).world ≡ Some c ↔ Closes w ticked k c)
  tick_own good = at_link (get w.links k) refl
    where
      closes_by : Link → Type 0
      closes_by l = (p : Player) × (get w.game.players k ≡ Some p)
          × TickCloses (is_silent (grown w.game) (get w.shown k) l) w k l p c

      of_player : (l : Link) → IsOpen w k l → ((after_tick w k l).link.cause ≡ Some c ↔ closes_by l)
      of_player l o = tick_cases w k l
          (λ (h : Handing). h.link.cause ≡ Some c ↔ closes_by l) o.is_there
          (λ nobody. neither
          (λ e. none_some (cause_in k w) c none (ap cause_of o.is_there ∙ e))
          (λ all. none_some (get w.game.players k) all.0 nobody all.1))
          (λ p there. o.open_)
          (λ p there silent.
          let x = last_closes l causes.Silent (farewell l.stage causes.Silent) c in (
            λ e. (p, there, rw silent (x.0 e)),
            λ all. x.1 (rw silent at all.2),
          ))
          (λ p there speaks.
          let x = hand_closes (awaiting (grown w.game) (get w.shown k) l)
          (map of_play (due (at_tick w).game (get w.shown k) p)) c
          (ap cause_of (sym o.is_there) ∙ none) in (
            λ e. (p, there, rw speaks (x.0 e)),
            λ all. x.1 (subst (λ (q : Player). TickCloses false w k l q c)
                (some_is all.0 p (sym all.1 ∙ there)) (rw speaks at all.2)),
          ))

      at_link : (o : Option Link) → get w.links k ≡ o →
          (cause_in k (tick w).world ≡ Some c ↔ Closes w ticked k c)
      at_link None is = neither
          (λ e. none_some (cause_of (get (tick w).world.links k)) c
          (ap cause_of (tick_link w k ∙ ap (option_map (λ (l : Link). (after_tick w k l).link)) is))
          e)
          (λ all. none_some (get w.links k) all.0 is all.2.is_there)
      at_link (Some l) is =
          let o = opens l is in
          let x = of_player l o in
          let a = tick_link w k ∙ ap (option_map (λ (l : Link). (after_tick w k l).link)) is in (
            λ e. (let y = x.0 (sym (ap cause_of a) ∙ e) in (l, y.0, o, y.1, y.2)),
            λ all. ap cause_of a ∙ x.1 (subst (λ (m : Link). closes_by m)
                (same_link all.0 l all.2.is_there is) (all.1, all.3, all.4)),
          )

  -- ---- forgetting

  forgets : (j : ℕ) → cause_in k (forget w j (get w.links j)) ≡ Some c → ⊥
  forgets j = at_link (get w.links j)
    where
      less : cause_of (get (remove w.links j) k) ≡ Some c → ⊥
      less = elim (cases_eq k j) [
        | inl same ↦ λ e. (let gone_now : get (remove w.links j) k ≡ None =
            rw same (gone_same w.links j) in
            none_some (cause_of (get (remove w.links j) k)) c (ap cause_of gone_now) e)
        | inr ne ↦ λ e. unchanged (get (remove w.links j) k) (gone_other w.links j k ne) e
      ]

      at_link : (o : Option Link) → cause_in k (forget w j o) ≡ Some c → ⊥
      at_link None e = unchanged (get w.links k) refl e
      at_link (Some l) e = elim (is_done l) as (λ b. cause_in k (if b then record w {
        links = remove w.links j;
        unread = remove w.unread j;
        shown = remove w.shown j;
      } else w) ≡ Some c → ⊥) [
        | true ↦ less
        | false ↦ λ e. unchanged (get w.links k) refl e
      ] e

  -- ---- any event

  -- of another's event nothing comes
  others : (j : ℕ) (f : Seat → Turn) → j ≢ k → cause_in k (on_seat w j f).world ≡ Some c → ⊥
  others j f ne e = unchanged (get (on_seat w j f).world.links k) (seat_rests w k j f ne).0 e

  no_join : (j : ℕ) → j ≢ k → cause_in k (join w j) ≡ Some c → ⊥
  no_join j ne = elim (is_new j w.last) as (λ b. cause_in k (if b
      then record w { last = Some j; links = insert w.links j (joining w) } else w)
      ≡ Some c → ⊥) [
        | true ↦ λ e. unchanged (get (insert w.links j (joining w)) k)
            (put_other w.links j k (joining w) (λ same. ne (sym same))) e
        | false ↦ λ e. unchanged (get w.links k) refl e
      ]

-- of a connection's own event, with its number
with_number : {A B : Type 0} (j k : ℕ) → (A ↔ B) → j ≡ k → (A ↔ ((j ≡ k) × B))
with_number j k i same = (λ a. (same, i.0 a), λ both. i.1 both.1)

pub closing : (w : World) (e : Event) (k : ℕ) (c : Cause) → GoodWorld w →
    ((l : Link) → get w.links k ≡ Some l → HasCause l) → cause_in k w ≡ None →
    (cause_in k (step w e).world ≡ Some c ↔ Closes w e k c)
unfolding step
closing w (joined j) k c good has none = elim (cases_eq j k) [
  | inl same ↦ (let i = subst (λ (n : ℕ). (cause_in k (join w n) ≡ Some c ↔
      ((is_new k w.last ≡ true) × (is_crowded w ≡ true) × (c ≡ causes.Crowded)))) (sym same)
      (joins w k c none has) in
      (λ e. (let a = i.0 e in (same, a.0, a.1, a.2)), λ all. i.1 (all.1, all.2, all.3)))
  | inr ne ↦ neither (no_join w k c none has j ne) (λ all. ne all.0)
]
closing w (came j bytes) k c good has none = elim (cases_eq j k) [
  | inl same ↦ with_number j k (subst (λ (n : ℕ).
      (cause_in k (on_seat w n (λ (s : Seat). on_bytes n s bytes)).world ≡ Some c
      ↔ ((l : Link) × IsOpen w k l × BytesClose k (seat_of w k l) bytes c))) (sym same)
      (own w k c none has (λ (s : Seat). on_bytes k s bytes)
      (λ (l : Link). BytesClose k (seat_of w k l) bytes c) (bytes_own w k c none has bytes))) same
  | inr ne ↦ neither (others w k c none has j (λ (s : Seat). on_bytes j s bytes) ne)
      (λ all. ne all.0)
]
closing w (left j) k c good has none = elim (cases_eq j k) [
  | inl same ↦ (let i = subst (λ (n : ℕ).
      (cause_in k (on_seat w n (depart n causes.Gone)).world ≡ Some c
      ↔ ((l : Link) × IsOpen w k l × (c ≡ causes.Gone)))) (sym same)
      (own w k c none has (depart k causes.Gone) (λ (l : Link). c ≡ causes.Gone)
      (gone_own w k c none has causes.Gone)) in (
        λ e. (let a = i.0 e in (same, (a.0, a.1), a.2)),
        λ all. i.1 (all.1.0, all.1.1, all.2),
      ))
  | inr ne ↦ neither (others w k c none has j (depart j causes.Gone) ne) (λ all. ne all.0)
]
closing w (broke j) k c good has none = elim (cases_eq j k) [
  | inl same ↦ (let i = subst (λ (n : ℕ).
      (cause_in k (on_seat w n (depart n causes.Broke)).world ≡ Some c
      ↔ ((l : Link) × IsOpen w k l × (c ≡ causes.Broke)))) (sym same)
      (own w k c none has (depart k causes.Broke) (λ (l : Link). c ≡ causes.Broke)
      (gone_own w k c none has causes.Broke)) in (
        λ e. (let a = i.0 e in (same, (a.0, a.1), a.2)),
        λ all. i.1 (all.1.0, all.1.1, all.2),
      ))
  | inr ne ↦ neither (others w k c none has j (depart j causes.Broke) ne) (λ all. ne all.0)
]
closing w ticked k c good has none = tick_own w k c none has good
closing w (took j n) k c good has none = neither
    (elim (cases_eq j k) [
      | inl same ↦ subst (λ (m : ℕ). cause_in k (on_seat w m (take_from n)).world ≡ Some c → ⊥)
          (sym same) (λ e. (let a = (own w k c none has (take_from n) (λ (l : Link). ⊥)
          (λ l o. (
            λ is. none_some (cause_in k w) c none (ap cause_of o.is_there ∙ is),
            λ no_way. absurd no_way,
          ))).0 e in a.2))
      | inr ne ↦ others w k c none has j (take_from n) ne
    ])
    (λ no_way. no_way)
closing w (forgot j) k c good has none = neither (forgets w k c none has j) (λ no_way. no_way)
