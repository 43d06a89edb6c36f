-- A server stands after bytes of a connection, after its leaving, and after it took of what it is
-- owed.
use Rattle.std.proofs.Common.{◌≡◌, ℕ, ◌<◌, ◌≤◌, true, false, List, Option, Some, None, refl, sym}
use Rattle.std.proofs.Common.{ap, ◌∙◌, arith, inl, inr, drop, length}
use Rattle.std.proofs.lemmas.List.{length-drop}
use Rattle.std.specs.Prelude.{if◌then◌else◌}
use Rattle.std.specs.FinMap.{get, insert}
use Rattle.mc_bytes.specs.Reading.{IsBytes}
use Rattle.mc_frame.specs.Held.{Splitting}
use Rattle.mc_model.specs.declared.stage.Stage.{Stage}
use Rattle.mc_model.specs.declared.cause.Cause.{Cause}
use Rattle.mc_model.specs.declared.cause.Cause.TheVariants as causes
use Rattle.mc_model.specs.Step.{Event, broke, came, left, took, depart, on_bytes, step, take_from}
use Rattle.mc_model.specs.Stages.{is_closed}
use Rattle.mc_flush.specs.Lists.{ListValue}
use Rattle.mc_model.specs.declared.player.Player.{Player}
use Rattle.mc_model.specs.Game.{Game}
use Rattle.mc_model.specs.Leaving.{leave, left_by}
use Rattle.mc_model.specs.Link.{gone}
use Rattle.mc_model.specs.World.{Seat, Unread, World, nothing_unread}
use Rattle.mc_laws.proofs.Deeds.Leaving.{leave_stays}
use Rattle.mc_model.proofs.Maps.Lookups.{put_same}
use Rattle.mc_model.proofs.Maps.Options.{not_both}
use Rattle.mc_laws.proofs.Walk.Handings.{gone_closed}
use Rattle.mc_links.specs.Kept.{ConnectionValue}
use Rattle.mc_links.specs.Seats.{Becomes, seat_with}
use Rattle.mc_play.specs.Kept.{GameValue}
use Rattle.mc_events.specs.Inputs.{IsLeaving}
use Rattle.mc_events.specs.Listing.{Follows}
use Rattle.mc_events.specs.Served.{ServerValue}
use Rattle.mc_events.specs.Stands.{Stands, owed_by}
use Rattle.mc_events.proofs.Listed.{uuid_of}
use Rattle.mc_events.proofs.Seating.{IsTurn, IsTurned, link_sits, turn_stands, with_turn}

-- ---- the steps of the events

pub came_turn : {w : World} {k : ℕ} {bytes : List ℕ} → IsBytes bytes →
    IsTurn w k (came k bytes) (λ (s : Seat). on_bytes k s bytes)
unfolding step
came_turn are = record { own = refl; bytes = are; is = refl }

left_turn : (w : World) (k : ℕ) → IsTurn w k (left k) (depart k causes.Gone)
unfolding step
left_turn w k = record { own = refl; bytes = tt; is = refl }

broke_turn : (w : World) (k : ℕ) → IsTurn w k (broke k) (depart k causes.Broke)
unfolding step
broke_turn w k = record { own = refl; bytes = tt; is = refl }

pub leaving_turn : {w : World} {k : ℕ} {e : Event} (cause : Cause) → IsLeaving k cause e →
    IsTurn w k e (depart k cause)
leaving_turn {w} {k} cause (inl is) = rw (is.0, is.1) (left_turn w k)
leaving_turn {w} {k} cause (inr is) = rw (is.0, is.1) (broke_turn w k)

pub took_turn : {w : World} {k n : ℕ} → IsTurn w k (took k n) (take_from n)
unfolding step
took_turn = record { own = refl; bytes = tt; is = refl }

-- ---- leaving

-- who leaves is closed, so nothing is asked of what is not read of its bytes
pub leaving_turned : {v g : GameValue} {c d : ConnectionValue} (cause : Cause) (unread : Unread) →
    Becomes v g c d (depart c.id cause (seat_with v c unread)).seat →
    IsTurned v g c d (depart c.id cause (seat_with v c unread)).seat
leaving_turned {c = c} {d = d} cause unread becomes = record {
  becomes = record {
    game = becomes.game;
    link = becomes.link
        ∙ ap (λ (x : Splitting). record c { splitter = x; link = gone cause c.link })
        (sym (ap (λ (x : ConnectionValue). x.splitter) becomes.link));
  };
  sits = λ open_. absurd (not_both (is_closed d.link.stage)
      (ap (λ (x : ConnectionValue). is_closed x.link.stage) becomes.link
      ∙ gone_closed cause c.link) open_);
}

-- no tick comes of it
left_age : (k : ℕ) (stage : Stage) (g : Game) → (left_by k stage g).age ≡ g.age
left_age k stage g = elim (is_closed stage) as
    (λ b. (if b then leave k g else g).age ≡ g.age) [
      | true ↦ (leave_stays k g).age
      | false ↦ refl
    ]

pub leaving_age : (v g : GameValue) (c d : ConnectionValue) (cause : Cause) →
    Becomes v g c d (depart c.id cause (seat_with v c nothing_unread)).seat →
    g.game.age ≡ v.game.age
leaving_age v g c d cause becomes = ap (λ (x : GameValue). x.game.age) becomes.game
    ∙ left_age c.id (gone cause c.link).stage v.game

-- ---- taking

same_follows : (o : Option Player) (list : ListValue) → Follows (uuid_of o) o list list
same_follows None list = refl
same_follows (Some p) list = refl

-- a connection that took of what it is owed
abbrev pub taken_by : ℕ → ConnectionValue → ConnectionValue
taken_by n c = record c { link = record c.link { owed = drop n c.link.owed } }

pub took_stands : (v : ServerValue) (w : World) (k n : ℕ) (c : ConnectionValue) → Stands v w →
    get v.connections k ≡ Some c →
    Stands (with_turn v k v.game (taken_by n c) v.list) (step w (took k n)).world
took_stands v w k n c stands there =
    turn_stands v w k (took k n) (take_from n) v.game c (taken_by n c) v.list stands there
    took_turn
    (record {
      becomes = record { game = refl; link = refl };
      sits = link_sits k stands there;
    })
    (same_follows (get v.game.game.players k) v.list) refl

pub took_falls : (v : ServerValue) (k n : ℕ) (c : ConnectionValue) →
    get v.connections k ≡ Some c → 0 < n → n ≤ length (owed_by (get v.connections k)) →
    length (owed_by (get (insert v.connections k (taken_by n c)) k))
    < length (owed_by (get v.connections k))
took_falls v k n c there some most =
    let now = ap (λ (o : Option ConnectionValue). length (owed_by o))
    (put_same v.connections k (taken_by n c)) in
    let before = ap (λ (o : Option ConnectionValue). length (owed_by o)) there in
    let fewer = length-drop n c.link.owed in
    omega (arith, now, before, fewer, some, most)
