-- No tick comes of what one connection does.
use Rattle.std.proofs.Common.{◌≡◌, ℕ, true, false, List, [], ◌∷◌, refl, ap, ◌∙◌}
use Rattle.std.specs.Prelude.{if◌then◌else◌}
use Rattle.mc_model.specs.declared.stage.Stage.{Stage}
use Rattle.mc_model.specs.declared.cause.Cause.{Cause}
use Rattle.mc_model.specs.Names.{offline_uuid}
use Rattle.mc_model.specs.Packets.{Sent, of_status}
use Rattle.mc_model.specs.Talk.{accepted, farewell}
use Rattle.mc_model.specs.Stages.{is_closed}
use Rattle.mc_model.specs.Game.{Game}
use Rattle.mc_model.specs.Leaving.{leave, left_by}
use Rattle.mc_model.specs.Link.{Handing, disconnect, hand}
use Rattle.mc_model.specs.Step.{disconnect_for, entered, on_frame, turn}
use Rattle.mc_model.specs.World.{Seat, Turn, nothing_unread}
use Rattle.mc_laws.proofs.Acts.ActOn.{act_on}
use Rattle.mc_laws.proofs.Deeds.Leaving.{leave_stays}
use Rattle.mc_laws.proofs.Walk.Moves.{Kept, answers, closes, comes_in, does, frame_walks, keeps}
use Rattle.mc_laws.proofs.Walk.Moves.{shakes, walked_keeps}
use Rattle.mc_play.specs.Kept.{GameValue}
use Rattle.mc_links.specs.Kept.{ConnectionValue}
use Rattle.mc_links.specs.Seats.{Becomes, seat_with}

left_age : (k : ℕ) (stage : Stage) (g : Game) → (left_by k stage g).age ≡ g.age
left_age k stage g = elim (is_closed stage) as
    (λ b. (if b then leave k g else g).age ≡ g.age) [
      | true ↦ (leave_stays k g).age
      | false ↦ refl
    ]

turn_age : (k : ℕ) (s : Seat) (h : Handing) → (turn k s h).seat.game.age ≡ s.game.age
turn_age k s h = left_age k h.link.stage s.game

age_kept : (k age : ℕ) → Kept k (λ (s : Seat) (ps : List Sent). s.game.age ≡ age)
age_kept k age s t ps (keeps unread is) same = ap (λ (x : Turn). x.seat.game.age) is ∙ same
age_kept k age s t ps (does packet g at did is) same =
    ap (λ (x : Turn). x.seat.game.age) is ∙ (act_on k packet s.game g did).age ∙ same
age_kept k age s t ps (shakes protocol stage at play closed is) same =
    ap (λ (x : Turn). x.seat.game.age) is ∙ same
age_kept k age s t ps (answers packet at is) same =
    ap (λ (x : Turn). x.seat.game.age) is ∙ turn_age k s (hand s.link (of_status packet ∷ []))
    ∙ same
age_kept k age s t ps (closes cause packets open_ last other is) same =
    ap (λ (x : Turn). x.seat.game.age) is ∙ turn_age k s (disconnect s.link cause packets) ∙ same
age_kept k age s t ps (comes_in name at free is) same =
    ap (λ (x : Turn). x.seat.game.age) is
    ∙ turn_age k (entered k s name) (hand (entered k s name).link
    (accepted (offline_uuid name) name)) ∙ same

frame_age : (k : ℕ) (s : Seat) (frame : List ℕ) →
    (on_frame k s frame).seat.game.age ≡ s.game.age
frame_age k s frame = walked_keeps k (λ (t : Seat) (ps : List Sent). t.game.age ≡ s.game.age)
    (age_kept k s.game.age) s (on_frame k s frame) [] (frame_walks k s frame) refl

-- ---- of a game as it is kept, after a frame, and where a connection is closed

becomes_age : (v g : GameValue) (c d : ConnectionValue) (s : Seat) → Becomes v g c d s →
    s.game.age ≡ v.game.age → g.game.age ≡ v.game.age
becomes_age v g c d s becomes same = ap (λ (x : GameValue). x.game.age) becomes.game ∙ same

pub framed_age : (v g : GameValue) (c d : ConnectionValue) (frame : List ℕ) →
    Becomes v g c d (on_frame c.id (seat_with v c nothing_unread) frame).seat →
    g.game.age ≡ v.game.age
framed_age v g c d frame becomes =
    becomes_age v g c d (on_frame c.id (seat_with v c nothing_unread) frame).seat becomes
    (frame_age c.id (seat_with v c nothing_unread) frame)

pub closed_age : (v g : GameValue) (c d : ConnectionValue) (cause : Cause) →
    Becomes v g c d (disconnect_for c.id (seat_with v c nothing_unread) cause).seat →
    g.game.age ≡ v.game.age
closed_age v g c d cause becomes =
    becomes_age v g c d (disconnect_for c.id (seat_with v c nothing_unread) cause).seat becomes
    (turn_age c.id (seat_with v c nothing_unread)
    (disconnect c.link cause (farewell c.link.stage cause)))
