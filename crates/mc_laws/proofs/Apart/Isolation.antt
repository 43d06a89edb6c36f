-- Isolation, step by step: what others and ticks make of two worlds that are the same but for one
-- connection, and what is done to that connection in one of them alone; and that a connection that
-- broke leaves the world that it would have left by going.
use Rattle.std.proofs.Common.{◌≡◌, ℕ, true, false, List, Option, Some, None, refl, sym, subst, ◌∙◌}
use Rattle.std.specs.Prelude.{if◌then◌else◌}
use Rattle.std.specs.FinMap.{get, remove}
use Rattle.mc_model.specs.declared.cause.Cause.{Cause}
use Rattle.mc_model.specs.declared.cause.Cause.TheVariants as causes
use Rattle.mc_model.specs.Step.{Event, joined, came, left, broke, ticked, took, forgot, depart}
use Rattle.mc_model.specs.Step.{forget, on_bytes, step, take_from}
use Rattle.mc_model.specs.Stages.{is_closed}
use Rattle.mc_model.specs.Game.{Game}
use Rattle.mc_model.specs.Leaving.{leave, left_by}
use Rattle.mc_model.specs.Link.{Link, gone, is_done}
use Rattle.mc_model.specs.World.{Seat, Turn, World, on_link, on_seat, seat_of, silent, with_seat}
use Rattle.mc_model.specs.Good.{GoodWorld}
use Rattle.mc_model.specs.Apart.{AlikeBut, IsNoJoin, IsOf, IsShut, LetsIn, SameBut}
use Rattle.mc_model.proofs.Maps.Lookups.{gone_other, gone_same, put_other, put_same}
use Rattle.mc_laws.proofs.Deeds.Leaving.{leave_nobody}
use Rattle.mc_laws.proofs.Walk.Handings.{gone_closed}
use Rattle.mc_laws.proofs.Apart.Ticks.{nobody, tick_apart}
use Rattle.mc_laws.proofs.Apart.Twins.{forget_apart, join_apart, seat_apart}

-- ---- what is taken in both worlds

pub others_apart : (k : ℕ) (w v : World) (e : Event) → (IsOf k e → ⊥) → LetsIn w e → LetsIn v e →
    GoodWorld w → SameBut k w v → AlikeBut k (step w e) (step v e)
unfolding step
others_apart k w v (joined j) no_own few few_too good a = join_apart k j w v no_own a few few_too
others_apart k w v (came j bytes) no_own few few_too good a =
    seat_apart k j w v no_own a (λ (s : Seat). on_bytes j s bytes)
others_apart k w v (left j) no_own few few_too good a =
    seat_apart k j w v no_own a (depart j causes.Gone)
others_apart k w v (broke j) no_own few few_too good a =
    seat_apart k j w v no_own a (depart j causes.Broke)
others_apart k w v ticked no_own few few_too good a = tick_apart k w v good a
others_apart k w v (took j n) no_own few few_too good a = seat_apart k j w v no_own a (take_from n)
others_apart k w v (forgot j) no_own few few_too good a = forget_apart k j w v no_own a

-- ---- what is done to the connection in one of them

-- whatever leaves the game as it is and the connection closed
shut_seat : (k : ℕ) (w v : World) (t : Turn) → t.seat.game ≡ w.game →
    is_closed t.seat.link.stage ≡ true → SameBut k w v → SameBut k (with_seat w k t.seat) v
shut_seat k w v t game closed a = record {
  game = game ∙ a.game;
  plans = a.plans;
  last = a.last;
  links = λ j ne. put_other w.links k j t.seat.link ne ∙ a.links j ne;
  unread = λ j ne. put_other w.unread k j t.seat.unread ne ∙ a.unread j ne;
  shown = a.shown;
  shut = subst IsShut (sym (put_same w.links k t.seat.link)) closed;
  shut_too = a.shut_too;
}

left_nobody : (k : ℕ) (l : Link) (g : Game) → get g.players k ≡ None → left_by k l.stage g ≡ g
left_nobody k l g none = elim (is_closed l.stage) as (λ b. (if b then leave k g else g) ≡ g)
    [ true ↦ leave_nobody k g none | false ↦ refl ]

module _ (k : ℕ) (w v : World) (good : GoodWorld w) (a : SameBut k w v) where
  on_own : (f : Seat → Turn) → ((l : Link) → is_closed l.stage ≡ true →
      ((f (seat_of w k l)).seat.game ≡ w.game)
      × (is_closed (f (seat_of w k l)).seat.link.stage ≡ true)) →
      SameBut k (on_seat w k f).world v
  on_own f rests = at_link (get w.links k) a.shut
    where
      at_link : (o : Option Link) → IsShut o → SameBut k (on_link w k f o).world v
      at_link None shut = a
      at_link (Some l) shut =
          let r = rests l shut in shut_seat k w v (f (seat_of w k l)) r.0 r.1 a

  departing : (cause : Cause) → SameBut k (on_seat w k (depart k cause)).world v
  departing cause = on_own (depart k cause) (λ l closed. (
    left_nobody k (gone cause l) w.game (nobody k w good a.shut),
    gone_closed cause l,
  ))

  coming : (bytes : List ℕ) → SameBut k (on_seat w k (λ (s : Seat). on_bytes k s bytes)).world v
  unfolding on_bytes
  coming bytes = on_own (λ (s : Seat). on_bytes k s bytes)
      (λ l closed. (rw closed refl, rw closed closed))

  forgetting : SameBut k (silent (forget w k (get w.links k))).world v
  forgetting = at_link (get w.links k)
    where
      at_link : (o : Option Link) → SameBut k (silent (forget w k o)).world v
      at_link None = a
      at_link (Some l) = elim (is_done l) as (λ b. SameBut k (if b then record w {
        links = remove w.links k;
        unread = remove w.unread k;
        shown = remove w.shown k;
      } else w) v) [
        | true ↦ record {
          game = a.game;
          plans = a.plans;
          last = a.last;
          links = λ j ne. gone_other w.links k j ne ∙ a.links j ne;
          unread = λ j ne. gone_other w.unread k j ne ∙ a.unread j ne;
          shown = λ j ne. gone_other w.shown k j ne ∙ a.shown j ne;
          shut = subst IsShut (sym (gone_same w.links k)) tt;
          shut_too = a.shut_too;
        }
        | false ↦ a
      ]

own_apart : (w v : World) (e : Event) (k : ℕ) → IsOf k e → IsNoJoin e → GoodWorld w →
    SameBut k w v → SameBut k (step w e).world v
unfolding step
own_apart w v (joined j) k is no_join good a = absurd no_join
own_apart w v (came j bytes) k is no_join good a =
    subst (λ (n : ℕ). SameBut k (on_seat w n (λ (s : Seat). on_bytes n s bytes)).world v) (sym is)
    (coming k w v good a bytes)
own_apart w v (left j) k is no_join good a =
    subst (λ (n : ℕ). SameBut k (on_seat w n (depart n causes.Gone)).world v) (sym is)
    (departing k w v good a causes.Gone)
own_apart w v (broke j) k is no_join good a =
    subst (λ (n : ℕ). SameBut k (on_seat w n (depart n causes.Broke)).world v) (sym is)
    (departing k w v good a causes.Broke)
own_apart w v ticked k is no_join good a = absurd is
own_apart w v (took j n) k is no_join good a =
    subst (λ (m : ℕ). SameBut k (on_seat w m (take_from n)).world v) (sym is)
    (on_own k w v good a (take_from n) (λ l closed. (refl, closed)))
own_apart w v (forgot j) k is no_join good a =
    subst (λ (n : ℕ). SameBut k (silent (forget w n (get w.links n))).world v) (sym is)
    (forgetting k w v good a)

pub own_step_apart : (k : ℕ) (w v : World) (e : Event) → IsOf k e → IsNoJoin e → GoodWorld w →
    SameBut k w v → SameBut k (step w e).world v
own_step_apart k w v e is no_join good a = own_apart w v e k is no_join good a

-- ---- breaking is as leaving

-- both games are what is left where its player left one and the same
pub seats_alike : (k : ℕ) (w : World) (t u : Turn) → t.seat.game ≡ u.seat.game →
    is_closed t.seat.link.stage ≡ true → is_closed u.seat.link.stage ≡ true →
    SameBut k (with_seat w k t.seat) (with_seat w k u.seat)
seats_alike k w t u game closed closed_too = record {
  game = game;
  plans = refl;
  last = refl;
  links = λ j ne. put_other w.links k j t.seat.link ne ∙ sym (put_other w.links k j u.seat.link ne);
  unread = λ j ne.
      put_other w.unread k j t.seat.unread ne ∙ sym (put_other w.unread k j u.seat.unread ne);
  shown = λ j ne. refl;
  shut = subst IsShut (sym (put_same w.links k t.seat.link)) closed;
  shut_too = subst IsShut (sym (put_same w.links k u.seat.link)) closed_too;
}

pub closed_left : (k : ℕ) (g : Game) (l m : Link) → is_closed l.stage ≡ true →
    is_closed m.stage ≡ true → left_by k l.stage g ≡ left_by k m.stage g
closed_left k g l m closed closed_too = rw (closed, closed_too) refl

pub broke_as_left : (k : ℕ) (w : World) (l : Link) → get w.links k ≡ Some l →
    SameBut k (step w (broke k)).world (step w (left k)).world
unfolding step
broke_as_left k w l there = subst (λ (o : Option Link).
    SameBut k (on_link w k (depart k causes.Broke) o).world
    (on_link w k (depart k causes.Gone) o).world) (sym there)
    (seats_alike k w (depart k causes.Broke (seat_of w k l)) (depart k causes.Gone (seat_of w k l))
    (closed_left k w.game (gone causes.Broke l) (gone causes.Gone l) (gone_closed causes.Broke l)
    (gone_closed causes.Gone l)) (gone_closed causes.Broke l) (gone_closed causes.Gone l))
