-- What an event makes of one connection, with what it is handed: nothing, a turn of its own, a
-- join, its going, or a tick.
use Rattle.std.proofs.Common.{◌≡◌, ◌≢◌, ℕ, Bool, true, false, cond, List, [], Option, Some, None}
use Rattle.std.proofs.Common.{refl, sym, subst, ap, ◌∙◌, inl, inr}
use Rattle.std.specs.Prelude.{◌&&◌, is_some, option_map, if◌then◌else◌}
use Rattle.std.proofs.lemmas.Bool.{cases_eq, eq-eqb, ne_eqb}
use Rattle.std.specs.FinMap.{get, insert, remove}
use Rattle.mc_model.specs.declared.cause.Cause.{Cause}
use Rattle.mc_model.specs.declared.cause.Cause.TheVariants as causes
use Rattle.mc_model.specs.declared.player.Player.{Player}
use Rattle.mc_model.specs.Run.{to, received_at}
use Rattle.mc_model.specs.Step.{Event, joined, came, left, broke, ticked, took, forgot, is_new}
use Rattle.mc_model.specs.Step.{depart, forget, joining, on_bytes, step, take_from}
use Rattle.mc_model.specs.Texts.{farewell_text}
use Rattle.mc_model.specs.Link.{Link, is_done}
use Rattle.mc_model.specs.World.{Outcome, Seat, Turn, World, on_link, on_seat, seat_of, silent}
use Rattle.mc_model.specs.Good.{GoodWorld}
use Rattle.mc_model.specs.Apart.{IsOf, Traits, traits_of}
use Rattle.mc_model.proofs.Maps.Lookups.{gone_same, put_same}
use Rattle.mc_laws.proofs.Deeds.Onwards.{name_of}
use Rattle.mc_laws.proofs.Apart.Outs.{to_own}
use Rattle.mc_laws.proofs.Apart.Senders.{only_sender}

-- it is as it was, and is handed nothing
pub record Stays (k : ℕ) (w : World) (o : Outcome) : Type 0 where
  pub link : get o.world.links k ≡ get w.links k
  pub unread : get o.world.unread k ≡ get w.unread k
  pub shown : get o.world.shown k ≡ get w.shown k
  pub handed : to k o.out ≡ []
  pub name : option_map name_of (get o.world.game.players k)
      ≡ option_map name_of (get w.game.players k)

-- a turn of its own
pub record Sits (k : ℕ) (w : World) (o : Outcome) (t : Turn) : Type 0 where
  pub link : get o.world.links k ≡ Some t.seat.link
  pub unread : get o.world.unread k ≡ Some t.seat.unread
  pub shown : get o.world.shown k ≡ get w.shown k
  pub handed : to k o.out ≡ t.handed
  pub game : o.world.game ≡ t.seat.game

-- it comes
pub record Comes (k : ℕ) (w : World) (o : Outcome) : Type 0 where
  pub new : is_new k w.last ≡ true
  pub link : get o.world.links k ≡ Some (joining w)
  pub unread : get o.world.unread k ≡ get w.unread k
  pub shown : get o.world.shown k ≡ get w.shown k
  pub handed : to k o.out ≡ []

-- it is closed and owed nothing, and goes
pub record Goes (k : ℕ) (w : World) (l : Link) (o : Outcome) : Type 0 where
  pub there : get w.links k ≡ Some l
  pub done : is_done l ≡ true
  pub link : get o.world.links k ≡ None
  pub unread : get o.world.unread k ≡ None
  pub shown : get o.world.shown k ≡ None
  pub handed : to k o.out ≡ []

pub data OneStep (k : ℕ) (w : World) (e : Event) : Type 0 where
  rests : Stays k w (step w e) → received_at k w e ≡ [] → OneStep k w e
  reads : (bytes : List ℕ) (l : Link) → e ≡ came k bytes → get w.links k ≡ Some l →
      Sits k w (step w e) (on_bytes k (seat_of w k l) bytes) → received_at k w e ≡ bytes →
      OneStep k w e
  departs : (cause : Cause) (l : Link) → farewell_text cause ≡ None → get w.links k ≡ Some l →
      Sits k w (step w e) (depart k cause (seat_of w k l)) → received_at k w e ≡ [] →
      OneStep k w e
  takes : (n : ℕ) (l : Link) → get w.links k ≡ Some l →
      Sits k w (step w e) (take_from n (seat_of w k l)) → received_at k w e ≡ [] →
      OneStep k w e
  comes : Comes k w (step w e) → received_at k w e ≡ [] → OneStep k w e
  goes : (l : Link) → Goes k w l (step w e) → received_at k w e ≡ [] → OneStep k w e
  ticks : e ≡ ticked → OneStep k w e

-- ---- a turn of its own

seat_sits : (w : World) (k : ℕ) (l : Link) (f : Seat → Turn) → get w.links k ≡ Some l →
    Sits k w (on_seat w k f) (f (seat_of w k l))
seat_sits w k l f there = subst (λ (o : Option Link). Sits k w (on_link w k f o)
    (f (seat_of w k l))) (sym there) (record {
      link = put_same w.links k (f (seat_of w k l)).seat.link;
      unread = put_same w.unread k (f (seat_of w k l)).seat.unread;
      shown = refl;
      handed = to_own k (f (seat_of w k l)).handed;
      game = refl;
    })

nothing_stays : (k : ℕ) (w : World) → Stays k w (silent w)
nothing_stays k w = record {
  link = refl;
  unread = refl;
  shown = refl;
  handed = refl;
  name = refl;
}

seat_away : (w : World) (k : ℕ) (f : Seat → Turn) → get w.links k ≡ None →
    Stays k w (on_seat w k f)
seat_away w k f none = subst (λ (o : Option Link). Stays k w (on_link w k f o)) (sym none)
    (nothing_stays k w)

-- a connection that is there, or is not
there_or_not : {k : ℕ} {w : World} {e : Event} (o : Option Link) → get w.links k ≡ o →
    (get w.links k ≡ None → OneStep k w e) →
    ((l : Link) → get w.links k ≡ Some l → OneStep k w e) → OneStep k w e
there_or_not None is away here = away is
there_or_not (Some l) is away here = here l is

-- ---- its own events

-- bytes are received of one that is there
received_own : (k : ℕ) (w : World) (bytes : List ℕ) (o : Option Link) → get w.links k ≡ o →
    received_at k w (came k bytes) ≡ cond (is_some o) bytes []
received_own k w bytes o is =
    ap (λ (b : Bool). cond (b && is_some (get w.links k)) bytes []) (eq-eqb k k refl)
    ∙ ap (λ (q : Option Link). cond (is_some q) bytes []) is

join_step : (k : ℕ) (w : World) → OneStep k w (joined k)
unfolding step
join_step k w = at_new (is_new k w.last) refl
  where
    stays_so : (b : Bool) → b ≡ false → Stays k w (silent (if b
        then record w { last = Some k; links = insert w.links k (joining w) } else w))
    stays_so true f = absurd cc
    stays_so false f = nothing_stays k w

    comes_so : (b : Bool) → b ≡ true → is_new k w.last ≡ true → Comes k w (silent (if b
        then record w { last = Some k; links = insert w.links k (joining w) } else w))
    comes_so true t new = record {
      new = new;
      link = put_same w.links k (joining w);
      unread = refl;
      shown = refl;
      handed = refl;
    }
    comes_so false t new = absurd cc

    at_new : (b : Bool) → is_new k w.last ≡ b → OneStep k w (joined k)
    at_new true t = comes (comes_so (is_new k w.last) t t) refl
    at_new false t = rests (stays_so (is_new k w.last) t) refl

forget_step : (k : ℕ) (w : World) → OneStep k w (forgot k)
unfolding step
forget_step k w = there_or_not (get w.links k) refl
    (λ none. rests (subst (λ (o : Option Link). Stays k w (silent (forget w k o))) (sym none)
    (nothing_stays k w)) refl)
    (λ l there. at_done l there (is_done l) refl)
  where
    less : World
    less = record w {
      links = remove w.links k;
      unread = remove w.unread k;
      shown = remove w.shown k;
    }

    at_done : (l : Link) → get w.links k ≡ Some l → (b : Bool) → is_done l ≡ b →
        OneStep k w (forgot k)
    at_done l there true t = goes l (subst (λ (o : Option Link).
        Goes k w l (silent (forget w k o))) (sym there)
        (subst (λ (b : Bool). Goes k w l (silent (if b then less else w))) (sym t) (record {
          there = there;
          done = t;
          link = gone_same w.links k;
          unread = gone_same w.unread k;
          shown = gone_same w.shown k;
          handed = refl;
        }))) refl
    at_done l there false t = rests (subst (λ (o : Option Link).
        Stays k w (silent (forget w k o))) (sym there)
        (subst (λ (b : Bool). Stays k w (silent (if b then less else w))) (sym t)
        (nothing_stays k w))) refl

own_step : (k : ℕ) (w : World) (e : Event) → IsOf k e → OneStep k w e
unfolding step
own_step k w (joined j) is = subst (λ (n : ℕ). OneStep k w (joined n)) (sym is) (join_step k w)
own_step k w (came j bytes) is = subst (λ (n : ℕ). OneStep k w (came n bytes)) (sym is)
    (there_or_not (get w.links k) refl
    (λ none. rests (seat_away w k (λ (s : Seat). on_bytes k s bytes) none)
    (received_own k w bytes None none))
    (λ l there. reads bytes l refl there
    (seat_sits w k l (λ (s : Seat). on_bytes k s bytes) there)
    (received_own k w bytes (Some l) there)))
own_step k w (left j) is = subst (λ (n : ℕ). OneStep k w (left n)) (sym is)
    (there_or_not (get w.links k) refl
    (λ none. rests (seat_away w k (depart k causes.Gone) none) refl)
    (λ l there. departs causes.Gone l refl there (seat_sits w k l (depart k causes.Gone) there)
    refl))
own_step k w (broke j) is = subst (λ (n : ℕ). OneStep k w (broke n)) (sym is)
    (there_or_not (get w.links k) refl
    (λ none. rests (seat_away w k (depart k causes.Broke) none) refl)
    (λ l there. departs causes.Broke l refl there (seat_sits w k l (depart k causes.Broke) there)
    refl))
own_step k w ticked is = absurd is
own_step k w (took j n) is = subst (λ (m : ℕ). OneStep k w (took m n)) (sym is)
    (there_or_not (get w.links k) refl
    (λ none. rests (seat_away w k (take_from n) none) refl)
    (λ l there. takes n l there (seat_sits w k l (take_from n) there) refl))
own_step k w (forgot j) is = subst (λ (n : ℕ). OneStep k w (forgot n)) (sym is) (forget_step k w)

-- ---- any event

-- traits have a name
name_by : (o q : Option Player) → option_map traits_of o ≡ option_map traits_of q →
    option_map name_of o ≡ option_map name_of q
name_by o q same = sym (named o) ∙ ap (option_map (λ (t : Traits). t.name)) same ∙ named q
  where
    named : (o : Option Player) →
        option_map (λ (t : Traits). t.name) (option_map traits_of o) ≡ option_map name_of o
    named None = refl
    named (Some p) = refl

-- of an event of another nothing comes
other_step : (k j : ℕ) (w : World) (e : Event) → IsOf j e → k ≢ j → GoodWorld w →
    received_at k w e ≡ [] → OneStep k w e
other_step k j w e is ne good none =
    let only = only_sender w e j is good in
    rests (record {
      link = only.links k ne;
      unread = only.unread k ne;
      shown = only.shown k ne;
      handed = only.handed k ne;
      name = name_by _ _ (only.traits k ne);
    }) none

received_other : (k j : ℕ) (w : World) (bytes : List ℕ) → k ≢ j →
    received_at k w (came j bytes) ≡ []
received_other k j w bytes ne =
    ap (λ (b : Bool). cond (b && is_some (get w.links k)) bytes [])
    (ne_eqb j k (λ same. ne (sym same)))

mine_or_not : (k j : ℕ) (w : World) (e : Event) → IsOf j e → GoodWorld w →
    (k ≢ j → received_at k w e ≡ []) → OneStep k w e
mine_or_not k j w e is good none = elim (cases_eq k j) [
  | inl same ↦ own_step k w e (subst (λ (n : ℕ). IsOf n e) (sym same) is)
  | inr ne ↦ other_step k j w e is ne good (none ne)
]

pub one_step : (w : World) (e : Event) (k : ℕ) → GoodWorld w → OneStep k w e
one_step w (joined j) k good = mine_or_not k j w (joined j) refl good (λ ne. refl)
one_step w (came j bytes) k good =
    mine_or_not k j w (came j bytes) refl good (received_other k j w bytes)
one_step w (left j) k good = mine_or_not k j w (left j) refl good (λ ne. refl)
one_step w (broke j) k good = mine_or_not k j w (broke j) refl good (λ ne. refl)
one_step w ticked k good = ticks refl
one_step w (took j n) k good = mine_or_not k j w (took j n) refl good (λ ne. refl)
one_step w (forgot j) k good = mine_or_not k j w (forgot j) refl good (λ ne. refl)
