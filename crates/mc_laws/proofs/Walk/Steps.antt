-- What an event makes of the world, case by case.
use Rattle.std.proofs.Common.{◌≡◌, ℕ, Bool, true, false, Option, Some, None, refl}
use Rattle.std.specs.Prelude.{if◌then◌else◌}
use Rattle.std.specs.FinMap.{get, insert, remove}
use Rattle.mc_model.specs.declared.cause.Cause.{Cause}
use Rattle.mc_model.specs.declared.cause.Cause.TheVariants as causes
use Rattle.mc_model.specs.Step.{Event, joined, came, left, broke, ticked, took, forgot, is_new}
use Rattle.mc_model.specs.Step.{depart, forget, join, joining, on_bytes, step, take_from}
use Rattle.mc_model.specs.Texts.{farewell_text}
use Rattle.mc_model.specs.Link.{Link, is_done}
use Rattle.mc_model.specs.World.{Outcome, Seat, Turn, World, on_link, on_seat, seat_of, seated}
use Rattle.mc_model.specs.World.{silent}
use Rattle.mc_model.specs.Tick.{tick}
use Rattle.mc_laws.proofs.Walk.Moves.{Walked, bytes_walk}

pub data Move (w : World) (o : Outcome) : Type 0 where
  -- nothing happens
  rests : o ≡ silent w → Move w o
  -- bytes of one connection do something
  sits : (k : ℕ) (l : Link) (t : Turn) → get w.links k ≡ Some l → Walked k (seat_of w k l) t →
      o ≡ seated w k t → Move w o
  -- one goes, for a cause that has no farewell
  departs : (k : ℕ) (l : Link) (cause : Cause) → get w.links k ≡ Some l →
      farewell_text cause ≡ None → o ≡ seated w k (depart k cause (seat_of w k l)) → Move w o
  -- one takes some of what it is owed
  takes : (k n : ℕ) (l : Link) → get w.links k ≡ Some l →
      o ≡ seated w k (take_from n (seat_of w k l)) → Move w o
  -- one joins
  joins : (k : ℕ) → is_new k w.last ≡ true →
      o ≡ silent (record w { last = Some k; links = insert w.links k (joining w) }) → Move w o
  -- one that is closed and owed nothing is forgotten
  forgets : (k : ℕ) (l : Link) → get w.links k ≡ Some l → is_done l ≡ true →
      o ≡ silent (record w {
        links = remove w.links k;
        unread = remove w.unread k;
        shown = remove w.shown k;
      }) → Move w o
  -- a tick comes
  passes : o ≡ tick w → Move w o

seat_moves : (w : World) (k : ℕ) (f : Seat → Turn) →
    ((l : Link) → get w.links k ≡ Some l → Move w (seated w k (f (seat_of w k l)))) →
    Move w (on_seat w k f)
seat_moves w k f moves = step_at (get w.links k) refl
  where
    step_at : (o : Option Link) → get w.links k ≡ o → Move w (on_link w k f o)
    step_at None is = rests refl
    step_at (Some l) is = moves l is

join_moves : (w : World) (k : ℕ) → Move w (silent (join w k))
join_moves w k = step_at (is_new k w.last) refl
  where
    step_at : (b : Bool) → is_new k w.last ≡ b → Move w (silent (if b
        then record w { last = Some k; links = insert w.links k (joining w) } else w))
    step_at true is = joins k is refl
    step_at false is = rests refl

forget_moves : (w : World) (k : ℕ) → Move w (silent (forget w k (get w.links k)))
forget_moves w k = step_at (get w.links k) refl
  where
    step_at : (o : Option Link) → get w.links k ≡ o → Move w (silent (forget w k o))
    step_at None is = rests refl
    step_at (Some l) is = done_at (is_done l) refl
      where
        done_at : (b : Bool) → is_done l ≡ b → Move w (silent (if b then record w {
          links = remove w.links k;
          unread = remove w.unread k;
          shown = remove w.shown k;
        } else w))
        done_at true t = forgets k l is t refl
        done_at false t = rests refl

pub step_moves : (w : World) (e : Event) → Move w (step w e)
unfolding step
step_moves w (joined k) = join_moves w k
step_moves w (came k bytes) =
    seat_moves w k (λ (s : Seat). on_bytes k s bytes)
    (λ l there. sits k l _ there (bytes_walk k (seat_of w k l) bytes) refl)
step_moves w (left k) = seat_moves w k (depart k causes.Gone)
    (λ l there. departs k l causes.Gone there refl refl)
step_moves w (broke k) = seat_moves w k (depart k causes.Broke)
    (λ l there. departs k l causes.Broke there refl refl)
step_moves w ticked = passes refl
step_moves w (took k n) = seat_moves w k (take_from n) (λ l there. takes k n l there refl)
step_moves w (forgot k) = forget_moves w k
