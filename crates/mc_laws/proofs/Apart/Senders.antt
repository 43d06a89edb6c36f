-- What one connection does hands nothing to any other, and changes nothing of it but what is noted
-- for its player.
use Rattle.std.proofs.Common.{◌≡◌, ℕ, true, false, Option, Some, None, refl, subst}
use Rattle.std.specs.Prelude.{if◌then◌else◌}
use Rattle.std.specs.FinMap.{get, insert, remove}
use Rattle.mc_model.specs.declared.cause.Cause.TheVariants as causes
use Rattle.mc_model.specs.Step.{Event, joined, came, left, broke, ticked, took, forgot, is_new}
use Rattle.mc_model.specs.Step.{depart, forget, join, joining, on_bytes, step, take_from}
use Rattle.mc_model.specs.Link.{Link, is_done}
use Rattle.mc_model.specs.World.{Seat, Turn, World, on_link, on_seat, seat_of, silent}
use Rattle.mc_model.specs.Good.{GoodWorld}
use Rattle.mc_model.specs.Apart.{IsOf, OnlySender}
use Rattle.mc_model.proofs.Maps.Lookups.{gone_other, put_other}
use Rattle.mc_laws.proofs.Walk.Moves.{bytes_walk}
use Rattle.mc_laws.proofs.Runs.Seats.{GoodSeat, departed_seat, taken_seat}
use Rattle.mc_laws.proofs.Runs.Worlds.{first_seat, walked_seat}
use Rattle.mc_laws.proofs.Apart.Outs.{to_other}

nothing_only : (k : ℕ) (w : World) → OnlySender k w (silent w)
nothing_only k w = record {
  handed = λ j ne. refl;
  links = λ j ne. refl;
  unread = λ j ne. refl;
  shown = λ j ne. refl;
  traits = λ j ne. refl;
  plans = refl;
}

seat_only : (k : ℕ) (w : World) (f : Seat → Turn) →
    ((l : Link) → get w.links k ≡ Some l → GoodSeat k w.game (f (seat_of w k l)).seat) →
    OnlySender k w (on_seat w k f)
seat_only k w f good = at_link (get w.links k) refl
  where
    at_link : (o : Option Link) → get w.links k ≡ o → OnlySender k w (on_link w k f o)
    at_link None is = nothing_only k w
    at_link (Some l) is =
        let s = good l is in
        record {
          handed = λ j ne. to_other k j _ ne;
          links = λ j ne. put_other w.links k j _ ne;
          unread = λ j ne. put_other w.unread k j _ ne;
          shown = λ j ne. refl;
          traits = s.others.traits;
          plans = refl;
        }

join_only : (k : ℕ) (w : World) → OnlySender k w (silent (join w k))
join_only k w = elim (is_new k w.last) as (λ b. OnlySender k w (silent (if b
    then record w { last = Some k; links = insert w.links k (joining w) } else w))) [
      | true ↦ record {
        handed = λ j ne. refl;
        links = λ j ne. put_other w.links k j _ ne;
        unread = λ j ne. refl;
        shown = λ j ne. refl;
        traits = λ j ne. refl;
        plans = refl;
      }
      | false ↦ nothing_only k w
    ]

forget_only : (k : ℕ) (w : World) (o : Option Link) → OnlySender k w (silent (forget w k o))
forget_only k w None = nothing_only k w
forget_only k w (Some l) = elim (is_done l) as (λ b. OnlySender k w (silent (if b
    then record w {
      links = remove w.links k;
      unread = remove w.unread k;
      shown = remove w.shown k;
    } else w))) [
      | true ↦ record {
        handed = λ j ne. refl;
        links = λ j ne. gone_other w.links k j ne;
        unread = λ j ne. gone_other w.unread k j ne;
        shown = λ j ne. gone_other w.shown k j ne;
        traits = λ j ne. refl;
        plans = refl;
      }
      | false ↦ nothing_only k w
    ]

-- of any event of one connection
own_event : (w : World) (e : Event) (k : ℕ) → IsOf k e → GoodWorld w → OnlySender k w (step w e)
unfolding step
own_event w (joined j) k is a =
    subst (λ (n : ℕ). OnlySender n w (silent (join w j))) is (join_only j w)
own_event w (came j bytes) k is a =
    subst (λ (n : ℕ). OnlySender n w (on_seat w j (λ (s : Seat). on_bytes j s bytes))) is
    (seat_only j w (λ (s : Seat). on_bytes j s bytes)
    (λ l there. walked_seat w j l _ there (bytes_walk j (seat_of w j l) bytes) a))
own_event w (left j) k is a =
    subst (λ (n : ℕ). OnlySender n w (on_seat w j (depart j causes.Gone))) is
    (seat_only j w (depart j causes.Gone)
    (λ l there. departed_seat j w.game causes.Gone (seat_of w j l) (first_seat w j l there a)))
own_event w (broke j) k is a =
    subst (λ (n : ℕ). OnlySender n w (on_seat w j (depart j causes.Broke))) is
    (seat_only j w (depart j causes.Broke)
    (λ l there. departed_seat j w.game causes.Broke (seat_of w j l) (first_seat w j l there a)))
own_event w ticked k is a = absurd is
own_event w (took j n) k is a =
    subst (λ (m : ℕ). OnlySender m w (on_seat w j (take_from n))) is
    (seat_only j w (take_from n)
    (λ l there. taken_seat j w.game n (seat_of w j l) (first_seat w j l there a)))
own_event w (forgot j) k is a =
    subst (λ (n : ℕ). OnlySender n w (silent (forget w j (get w.links j)))) is
    (forget_only j w (get w.links j))

pub only_sender : (w : World) (e : Event) (k : ℕ) → IsOf k e → GoodWorld w →
    OnlySender k w (step w e)
only_sender = own_event
