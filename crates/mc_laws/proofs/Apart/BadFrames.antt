-- A connection that a bad frame closes leaves the world, but for itself, as if only what stands
-- before that frame had come and it had then left.
use Rattle.std.proofs.Common.{◌≡◌, ℕ, true, false, List, [], ◌∷◌, ◌++◌, Option, Some, None, refl}
use Rattle.std.proofs.Common.{sym, subst, ap, ◌∙◌, length}
use Rattle.std.specs.Prelude.{if◌then◌else◌}
use Rattle.std.specs.FinMap.{insert}
use Rattle.mc_frame.specs.declared.fault.FrameFault.{FrameFault}
use Rattle.mc_up.specs.declared.play_up.PlayUp.{PlayUp}
use Rattle.mc_model.specs.declared.cause.Cause.{Cause}
use Rattle.mc_model.specs.declared.cause.Cause.TheVariants as causes
use Rattle.mc_model.specs.declared.cause.Refusal.{Refusal}
use Rattle.mc_model.specs.Step.{came, left, acted, after, answer_login, asked_by, on_frame}
use Rattle.mc_model.specs.Step.{on_frames, perform, depart, disconnect_for, on_bytes, on_fault}
use Rattle.mc_model.specs.Step.{read_to, refusal, step, still}
use Rattle.mc_model.specs.Talk.{ClientRequest, nothing, greets, replies, ends, enters, acts, wrong}
use Rattle.mc_model.specs.Talk.{farewell}
use Rattle.mc_model.specs.Stages.{is_closed}
use Rattle.mc_model.specs.Game.{Game}
use Rattle.mc_model.specs.Leaving.{leave}
use Rattle.mc_model.specs.Acts.{act}
use Rattle.mc_model.specs.World.{Seat, Turn, Unread, World, seat_of, unread_of, with_seat}
use Rattle.mc_model.specs.Apart.{HasBadFrame, IsBad, IsBadRequest, IsShut, SameBut, StandsBefore}
use Rattle.mc_model.specs.Apart.{cut_behind}
use Rattle.mc_model.proofs.Maps.Lookups.{put_other, put_same}
use Rattle.mc_laws.proofs.Walk.Handings.{gone_closed}
use Rattle.mc_laws.proofs.Walk.Each.{disconnect_closes}
use Rattle.mc_laws.proofs.Runs.Closings.{closed_fault, closed_frames, frame_is}

-- a turn with other bytes unread
abbrev pub elsewhere : Unread → Turn → Turn
elsewhere u t = record { seat = record t.seat { unread = u }; handed = t.handed }

acted_elsewhere : (k : ℕ) (s : Seat) (u : Unread) (packet : PlayUp) (o : Option Game) →
    acted k (record s { unread = u }) packet o ≡ elsewhere u (acted k s packet o)
acted_elsewhere k s u packet None = refl
acted_elsewhere k s u packet (Some g) = refl

login_elsewhere : (k : ℕ) (s : Seat) (u : Unread) (name : List ℕ) (o : Option Refusal) →
    answer_login k (record s { unread = u }) name o ≡ elsewhere u (answer_login k s name o)
login_elsewhere k s u name None = refl
login_elsewhere k s u name (Some why) = refl

perform_elsewhere : (k : ℕ) (s : Seat) (u : Unread) (x : ClientRequest) →
    perform k (record s { unread = u }) x ≡ elsewhere u (perform k s x)
perform_elsewhere k s u nothing = refl
perform_elsewhere k s u (greets protocol stage) = refl
perform_elsewhere k s u (replies packet) = refl
perform_elsewhere k s u (ends packet) = refl
perform_elsewhere k s u (enters name) =
    login_elsewhere k s u name (refusal s.game s.link.protocol name)
perform_elsewhere k s u (acts packet) = acted_elsewhere k s u packet (act s.game k packet)
perform_elsewhere k s u (wrong fault) = refl

frame_elsewhere : (k : ℕ) (s : Seat) (u : Unread) (frame : List ℕ) →
    on_frame k (record s { unread = u }) frame ≡ elsewhere u (on_frame k s frame)
unfolding on_frame
frame_elsewhere k s u frame = elim (is_closed s.link.stage) as (λ b.
    (if b then still (record s { unread = u }) else perform k (record s { unread = u })
    (asked_by s frame))
    ≡ elsewhere u (if b then still s else perform k s (asked_by s frame))) [
      | true ↦ refl
      | false ↦ perform_elsewhere k s u (asked_by s frame)
    ]

-- what frames do does not depend on what is unread behind them
pub frames_elsewhere : (k : ℕ) (frames : List (List ℕ)) (s : Seat) (u : Unread) →
    on_frames k (record s { unread = u }) frames ≡ elsewhere u (on_frames k s frames)
frames_elsewhere k [] s u = refl
frames_elsewhere k (frame ∷ frames) s u =
    ap (λ (t : Turn). after t (λ (v : Seat). on_frames k v frames)) (frame_elsewhere k s u frame)
    ∙ ap (λ (t : Turn). record {
      seat = t.seat;
      handed = (on_frame k s frame).handed ++ t.handed;
    }) (frames_elsewhere k frames (on_frame k s frame).seat u)

-- ---- the bad frame

-- what closes it lets its player leave of the game that is there
record LeavesOf (k : ℕ) (g : Game) (s : Seat) : Type 0 where
  game : s.game ≡ leave k g
  closed : is_closed s.link.stage ≡ true

closed_by_farewell : (k : ℕ) (s : Seat) (cause : Cause) → LeavesOf k s.game
    (disconnect_for k s cause).seat
closed_by_farewell k s cause =
    let shut = disconnect_closes s.link cause (farewell s.link.stage cause) in
    record { game = rw shut refl; closed = shut }

bad_request : (k : ℕ) (s : Seat) (x : ClientRequest) → IsBadRequest k s x →
    LeavesOf k s.game (perform k s x).seat
bad_request k s nothing bad = absurd bad
bad_request k s (greets protocol stage) bad = absurd bad
bad_request k s (replies packet) bad = absurd bad
bad_request k s (ends packet) bad = absurd bad
bad_request k s (enters name) bad = absurd bad
bad_request k s (acts packet) bad = subst (λ (o : Option Game).
    LeavesOf k s.game (acted k s packet o).seat) (sym bad) (closed_by_farewell k s causes.BadNumber)
bad_request k s (wrong fault) bad = closed_by_farewell k s (causes.Packet fault)

bad_leaves : (k : ℕ) (s : Seat) (later : List (List ℕ)) (fault : Option FrameFault) →
    is_closed s.link.stage ≡ false → IsBad k s later fault →
    LeavesOf k s.game (on_fault k (on_frames k s later).seat fault).seat
bad_leaves k s [] None open_ bad = absurd bad
bad_leaves k s [] (Some fault) open_ bad =
    rw open_ (closed_by_farewell k s (causes.Frame fault))
bad_leaves k s (frame ∷ later) fault open_ bad =
    let first = subst (λ (t : Turn). LeavesOf k s.game t.seat) (sym (frame_is k s frame open_))
    (bad_request k s (asked_by s frame) bad) in
    subst (λ (t : Seat). LeavesOf k s.game t)
    (sym (ap (λ (t : Seat). (on_fault k t fault).seat)
    (closed_frames k (on_frame k s frame).seat later first.closed)
    ∙ closed_fault k (on_frame k s frame).seat fault first.closed)) first

-- frames before others are done first
frames_joined : (k : ℕ) (good later : List (List ℕ)) (s : Seat) →
    (on_frames k s (good ++ later)).seat ≡ (on_frames k (on_frames k s good).seat later).seat
frames_joined k [] later s = refl
frames_joined k (frame ∷ good) later s =
    frames_joined k good later (on_frame k s frame).seat

-- ---- whatever is unread

bad_request_too : (k : ℕ) (s : Seat) (u : Unread) (x : ClientRequest) → IsBadRequest k s x →
    IsBadRequest k (record s { unread = u }) x
bad_request_too k s u nothing bad = bad
bad_request_too k s u (greets protocol stage) bad = bad
bad_request_too k s u (replies packet) bad = bad
bad_request_too k s u (ends packet) bad = bad
bad_request_too k s u (enters name) bad = bad
bad_request_too k s u (acts packet) bad = bad
bad_request_too k s u (wrong fault) bad = bad

bad_too : (k : ℕ) (s : Seat) (u : Unread) (later : List (List ℕ)) (fault : Option FrameFault) →
    IsBad k s later fault → IsBad k (record s { unread = u }) later fault
bad_too k s u [] None bad = bad
bad_too k s u [] (Some fault) bad = bad
bad_too k s u (frame ∷ later) fault bad = bad_request_too k s u (asked_by s frame) bad

module _ (k : ℕ) (w : World) (bytes before : List ℕ) (h : HasBadFrame k w bytes)
    (stands : StandsBefore k w bytes h.good before) where
  abbrev seat : Seat
  seat = seat_of w k h.link

  abbrev passed : Seat
  passed = (on_frames k seat h.good).seat

  abbrev reading : List ℕ → Seat
  reading bs = read_to seat (cut_behind w k bs) (length ((unread_of k w).rest ++ bs))

  passed_by : (bs : List ℕ) → (on_frames k (reading bs) h.good).seat
      ≡ record passed { unread = (reading bs).unread }
  passed_by bs = ap (λ (t : Turn). t.seat)
      (frames_elsewhere k h.good seat (reading bs).unread)

  -- all of the bytes
  after_bytes : LeavesOf k passed.game (on_bytes k seat bytes).seat
  unfolding on_bytes
  after_bytes = rw h.open_ (subst (λ (fs : List (List ℕ)). LeavesOf k passed.game
      (on_fault k (on_frames k (reading bytes) fs).seat (cut_behind w k bytes).fault).seat)
      (sym h.parts) (subst (λ (t : Seat). LeavesOf k passed.game
      (on_fault k t (cut_behind w k bytes).fault).seat)
      (sym (frames_joined k h.good h.later (reading bytes))) (subst (λ (t : Seat).
      LeavesOf k passed.game
      (on_fault k (on_frames k t h.later).seat (cut_behind w k bytes).fault).seat)
      (sym (passed_by bytes)) (bad_leaves k (record passed { unread = (reading bytes).unread })
      h.later (cut_behind w k bytes).fault h.still_open
      (bad_too k passed (reading bytes).unread h.later (cut_behind w k bytes).fault h.bad)))))

  -- those before it
  after_before : (on_bytes k seat before).seat
      ≡ record passed { unread = (reading before).unread }
  unfolding on_bytes
  after_before = rw h.open_ (ap (λ (fault : Option FrameFault).
      (on_fault k (on_frames k (reading before) (cut_behind w k before).frames).seat fault).seat)
      stands.clean
      ∙ ap (λ (fs : List (List ℕ)). (on_frames k (reading before) fs).seat) stands.whole
      ∙ passed_by before)

  -- and then it leaves
  abbrev rest : Seat
  rest = (on_bytes k seat before).seat

  abbrev left_seat : Seat
  left_seat = (depart k causes.Gone (seat_of (with_seat w k rest) k rest.link)).seat

  leaves_too : LeavesOf k passed.game left_seat
  leaves_too =
      let shut = gone_closed causes.Gone rest.link in
      record {
        game = rw shut (ap (λ (t : Seat). leave k t.game) after_before);
        closed = shut;
      }

  pub bad_as_left : SameBut k (with_seat w k (on_bytes k seat bytes).seat)
      (with_seat (with_seat w k rest) k left_seat)
  bad_as_left = record {
    game = after_bytes.game ∙ sym leaves_too.game;
    plans = refl;
    last = refl;
    links = λ j ne. put_other w.links k j _ ne ∙ sym (put_other w.links k j rest.link ne)
        ∙ sym (put_other (insert w.links k rest.link) k j left_seat.link ne);
    unread = λ j ne. put_other w.unread k j _ ne ∙ sym (put_other w.unread k j rest.unread ne)
        ∙ sym (put_other (insert w.unread k rest.unread) k j left_seat.unread ne);
    shown = λ j ne. refl;
    shut = subst IsShut (sym (put_same w.links k (on_bytes k seat bytes).seat.link))
        after_bytes.closed;
    shut_too = subst IsShut (sym (put_same (insert w.links k rest.link) k left_seat.link))
        leaves_too.closed;
  }

  pub bad_twin : SameBut k (step w (came k bytes)).world
      (step (step w (came k before)).world (left k)).world
  unfolding step
  bad_twin = rw h.there (rw (put_same w.links k rest.link) bad_as_left)
