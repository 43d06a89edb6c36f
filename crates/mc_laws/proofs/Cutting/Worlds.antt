-- Two worlds, of which to one the bytes of a connection came at once and to the other in two
-- events.
use Rattle.std.proofs.Common.{◌≡◌, ℕ, true, false, cond, List, [], ◌∷◌, ◌++◌, Option}
use Rattle.std.proofs.Common.{Some, None, refl, sym, subst, ap, ◌∙◌, append_assoc, inl, inr}
use Rattle.std.specs.Prelude.{◌==◌, unwrap_or}
use Rattle.std.proofs.lemmas.Bool.{cases_eq}
use Rattle.std.specs.Ordering.{nat_cmp}
use Rattle.std.specs.FinMap.{FinMap, get, insert}
use Rattle.mc_bytes.specs.Reading.{IsBytes}
use Rattle.mc_model.specs.Packets.{Sent}
use Rattle.mc_model.specs.Run.{to}
use Rattle.mc_model.specs.Stages.{is_closed}
use Rattle.mc_model.specs.Step.{came, on_bytes, step}
use Rattle.mc_model.specs.Link.{Link}
use Rattle.mc_model.specs.World.{Seat, Turn, World, nothing_unread, on_link, seat_of}
use Rattle.mc_model.specs.World.{seated, unread_of, with_seat}
use Rattle.mc_model.proofs.Maps.Lookups.{put_other, put_same}
use Rattle.mc_model.proofs.Maps.Options.{some_is}
use Rattle.mc_laws.specs.Pieces.{SameOutcome, SameTurn, in_two}
use Rattle.mc_laws.proofs.Cutting.Reads.{bytes_in_two}

-- what came last under a number is there
put_again : {X : Type 0} (k : ℕ) (m : FinMap nat_cmp X) (x y z : X) → x ≡ z → (j : ℕ) →
    get (insert m k x) j ≡ get (insert (insert m k y) k z) j
put_again k m x y z same j = elim (cases_eq j k) [
  | inl is ↦ rw is (put_same m k x ∙ ap Some same ∙ sym (put_same (insert m k y) k z))
  | inr other ↦ put_other m k j x other
      ∙ sym (put_other (insert m k y) k j z other ∙ put_other m k j y other)
]

-- what is handed out at once is handed out one after another
to_both : (k j : ℕ) (first second : List Sent) →
    to j ((k, first ++ second) ∷ []) ≡ to j ((k, first) ∷ (k, second) ∷ [])
to_both k j first second = elim (k == j) as (λ b. ◌≡◌ {A = List Sent}
    (cond b (first ++ second) [] ++ [])
    (cond b first [] ++ (cond b second [] ++ []))) [
      | true ↦ append_assoc first second []
      | false ↦ refl
    ]

-- a seat that was put is there
seat_put : (w : World) (k : ℕ) (s : Seat) → seat_of (with_seat w k s) k s.link ≡ s
seat_put w k s = λ i. record {
  game = s.game;
  link = s.link;
  unread = unwrap_or (put_same w.unread k s.unread i) nothing_unread;
}

-- one turn, or two that come to the same
seated_same : (w : World) (k : ℕ) (one first second : Turn) →
    SameTurn one (record { seat = second.seat; handed = first.handed ++ second.handed }) →
    SameOutcome k (seated w k one) (record {
      world = with_seat (with_seat w k first.seat) k second.seat;
      out = (k, first.handed) ∷ (k, second.handed) ∷ [];
    })
seated_same w k one first second a = record {
  handed = λ j. ap (λ (ps : List Sent). to j ((k, ps) ∷ [])) a.handed
      ∙ to_both k j first.handed second.handed;
  game = a.seat.game;
  links = put_again k w.links one.seat.link first.seat.link second.seat.link a.seat.link;
  unread = λ j ne. put_other w.unread k j one.seat.unread ne
      ∙ sym (put_other (insert w.unread k first.seat.unread) k j second.seat.unread ne
      ∙ put_other w.unread k j first.seat.unread ne);
  own = λ l there open_. put_again k w.unread one.seat.unread first.seat.unread
      second.seat.unread (a.seat.unread (subst (λ (m : Link). is_closed m.stage ≡ false)
      (some_is l one.seat.link (sym there ∙ put_same w.links k one.seat.link)) open_)) k;
  plans = refl;
  shown = refl;
  last = refl;
}

same_silence : (k : ℕ) (w : World) → SameOutcome k (record { world = w; out = [] })
    (record { world = w; out = [] })
same_silence k w = record {
  handed = λ j. refl;
  game = refl;
  links = λ j. refl;
  unread = λ j ne. refl;
  own = λ l there open_. refl;
  plans = refl;
  shown = refl;
  last = refl;
}

abbrev reads : ℕ → List ℕ → Seat → Turn
reads k bytes s = on_bytes k s bytes

pub events_same : (w : World) (k : ℕ) (bytes more : List ℕ) → IsBytes (unread_of k w).rest →
    IsBytes bytes → IsBytes more →
    SameOutcome k (step w (came k (bytes ++ more))) (in_two w (came k bytes) (came k more))
unfolding step
events_same w k bytes more fits come come_too = at_link (get w.links k) refl
  where
    at_link : (o : Option Link) → get w.links k ≡ o →
        SameOutcome k (on_link w k (reads k (bytes ++ more)) (get w.links k))
        (in_two w (came k bytes) (came k more))
    at_link None is = rw (is, is) (same_silence k w)
    at_link (Some l) is =
        let s = seat_of w k l in
        let first = on_bytes k s bytes in
        let v = with_seat w k first.seat in
        let again = put_same w.links k first.seat.link in
        rw is (rw again (subst (λ (t : Seat). SameOutcome k (seated w k (reads k (bytes ++ more) s))
        (record {
          world = with_seat v k (reads k more t).seat;
          out = (k, first.handed) ∷ (k, (reads k more t).handed) ∷ [];
        })) (sym (seat_put w k first.seat))
        (seated_same w k (reads k (bytes ++ more) s) first (reads k more first.seat)
        (bytes_in_two k s bytes more fits come come_too))))
