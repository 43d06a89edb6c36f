-- Frames of a seat, one after another: nothing of them touches what is not read, and a closed
-- connection is deaf.
use Rattle.std.proofs.Common.{◌≡◌, ℕ, Bool, true, false, List, [], ◌∷◌, ◌++◌, refl, ap, ◌∙◌}
use Rattle.std.specs.Prelude.{Option, Some, None, if◌then◌else◌}
use Rattle.mc_frame.specs.declared.fault.FrameFault.{FrameFault}
use Rattle.mc_up.specs.declared.play_up.PlayUp.{PlayUp}
use Rattle.mc_model.specs.declared.cause.Cause.TheVariants as causes
use Rattle.mc_model.specs.declared.cause.Refusal.{Refusal}
use Rattle.mc_model.specs.Talk.{ClientRequest, nothing, greets, replies, ends, enters, acts, wrong}
use Rattle.mc_model.specs.Stages.{is_closed}
use Rattle.mc_model.specs.Acts.{act}
use Rattle.mc_model.specs.Game.{Game}
use Rattle.mc_model.specs.Step.{acted, answer_login, asked_by, disconnect_for, on_fault, on_frame}
use Rattle.mc_model.specs.Step.{on_frames, perform, refusal, still, when_open}
use Rattle.mc_model.specs.World.{Seat, Turn}

-- ---- what is not read stays

login_unread : (k : ℕ) (s : Seat) (name : List ℕ) (o : Option Refusal) →
    (answer_login k s name o).seat.unread ≡ s.unread
login_unread k s name (Some why) = refl
login_unread k s name None = refl

acted_unread : (k : ℕ) (s : Seat) (packet : PlayUp) (o : Option Game) →
    (acted k s packet o).seat.unread ≡ s.unread
acted_unread k s packet (Some g) = refl
acted_unread k s packet None = refl

perform_unread : (k : ℕ) (s : Seat) (x : ClientRequest) → (perform k s x).seat.unread ≡ s.unread
perform_unread k s nothing = refl
perform_unread k s (greets protocol stage) = refl
perform_unread k s (replies packet) = refl
perform_unread k s (ends packet) = refl
perform_unread k s (enters name) =
    login_unread k s name (refusal s.game s.link.protocol name)
perform_unread k s (acts packet) = acted_unread k s packet (act s.game k packet)
perform_unread k s (wrong fault) = refl

open_unread : (s : Seat) (f : Seat → Turn) → (f s).seat.unread ≡ s.unread → (b : Bool) →
    (if b then still s else f s).seat.unread ≡ s.unread
open_unread s f stays true = refl
open_unread s f stays false = stays

frame_unread : (k : ℕ) (s : Seat) (frame : List ℕ) → (on_frame k s frame).seat.unread ≡ s.unread
unfolding on_frame
frame_unread k s frame =
    open_unread s (λ (s : Seat). perform k s (asked_by s frame))
    (perform_unread k s (asked_by s frame)) (is_closed s.link.stage)

pub frames_unread : (k : ℕ) (frames : List (List ℕ)) (s : Seat) →
    (on_frames k s frames).seat.unread ≡ s.unread
frames_unread k [] s = refl
frames_unread k (frame ∷ frames) s =
    frames_unread k frames (on_frame k s frame).seat ∙ frame_unread k s frame

pub fault_unread : (k : ℕ) (s : Seat) (o : Option FrameFault) →
    (on_fault k s o).seat.unread ≡ s.unread
fault_unread k s None = refl
fault_unread k s (Some fault) =
    open_unread s (λ (s : Seat). disconnect_for k s (causes.Frame fault)) refl
    (is_closed s.link.stage)

-- ---- frames behind others

pub frames_joined : (k : ℕ) (frames more : List (List ℕ)) (s : Seat) →
    (on_frames k s (frames ++ more)).seat ≡ (on_frames k (on_frames k s frames).seat more).seat
frames_joined k [] more s = refl
frames_joined k (frame ∷ frames) more s = frames_joined k frames more (on_frame k s frame).seat

-- ---- a closed connection is deaf

pub deaf : (s : Seat) (f : Seat → Turn) → is_closed s.link.stage ≡ true →
    (when_open s f).seat ≡ s
deaf s f over = ap (λ (b : Bool). (if b then still s else f s).seat) over

-- and an open one is not
pub heeds : (s : Seat) (f : Seat → Turn) → is_closed s.link.stage ≡ false →
    (when_open s f).seat ≡ (f s).seat
heeds s f open_ = ap (λ (b : Bool). (if b then still s else f s).seat) open_

pub closed_frame : (k : ℕ) (s : Seat) (frame : List ℕ) → is_closed s.link.stage ≡ true →
    (on_frame k s frame).seat ≡ s
unfolding on_frame
closed_frame k s frame over = deaf s (λ (s : Seat). perform k s (asked_by s frame)) over

pub closed_frames : (k : ℕ) (frames : List (List ℕ)) (s : Seat) → is_closed s.link.stage ≡ true →
    (on_frames k s frames).seat ≡ s
closed_frames k [] s over = refl
closed_frames k (frame ∷ frames) s over =
    ap (λ (t : Seat). (on_frames k t frames).seat) (closed_frame k s frame over)
    ∙ closed_frames k frames s over

pub closed_fault : (k : ℕ) (s : Seat) (o : Option FrameFault) → is_closed s.link.stage ≡ true →
    (on_fault k s o).seat ≡ s
closed_fault k s None over = refl
closed_fault k s (Some fault) over =
    deaf s (λ (s : Seat). disconnect_for k s (causes.Frame fault)) over
