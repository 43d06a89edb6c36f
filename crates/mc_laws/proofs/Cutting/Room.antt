-- What a connection is owed matters only for whether there is room for more: one that is owed less
-- comes to the same, where the other is not closed since it is owed too much.
use Rattle.std.proofs.Common.{◌≡◌, ◌≤◌, ℕ, ◌+◌, Bool, true, false, List, [], ◌∷◌, ◌++◌, length}
use Rattle.std.proofs.Common.{refl, sym, subst, ap, ◌∙◌, arith}
use Rattle.std.specs.Prelude.{Option, Some, None, if◌then◌else◌}
use Rattle.std.proofs.lemmas.List.{length-append}
use Rattle.std.proofs.lemmas.Bool.{le-leb, leb-true}
use Rattle.mc_frame.specs.declared.fault.FrameFault.{FrameFault}
use Rattle.mc_frame.specs.Kept.{outbox_max}
use Rattle.mc_up.specs.declared.play_up.PlayUp.{PlayUp}
use Rattle.mc_up.specs.declared.play_up.PlayUp.TheVariants.{KeepAlive}
use Rattle.mc_model.specs.declared.cause.Cause.{Cause}
use Rattle.mc_model.specs.declared.cause.Cause.TheVariants as causes
use Rattle.mc_model.specs.declared.cause.Refusal.{Refusal}
use Rattle.mc_model.specs.Acts.{act}
use Rattle.mc_model.specs.Cutting.{cut_of}
use Rattle.mc_model.specs.Game.{Game}
use Rattle.mc_model.specs.Link.{Handing, Link, hand, mark_closed}
use Rattle.mc_model.specs.Names.{offline_uuid}
use Rattle.mc_model.specs.Packets.{Sent, bytes_of, of_status}
use Rattle.mc_model.specs.Stages.{is_closed}
use Rattle.mc_model.specs.Step.{acted, after, answer_login, asked_by, disconnect_for, entered}
use Rattle.mc_model.specs.Step.{heard}
use Rattle.mc_model.specs.Step.{on_bytes, on_fault, on_frame, on_frames, perform, refusal, still}
use Rattle.mc_model.specs.Step.{turn}
use Rattle.mc_model.specs.Talk.{ClientRequest, nothing, greets, replies, ends, enters, acts, wrong}
use Rattle.mc_model.specs.Talk.{accepted, farewell, refused}
use Rattle.mc_model.specs.World.{Seat, Turn}
use Rattle.mc_laws.specs.Pieces.{IsFull}
use Rattle.mc_laws.proofs.Walk.Handings.{hand_cases}
use Rattle.mc_laws.proofs.Apart.BadFrames.{elsewhere}
use Rattle.mc_laws.proofs.Cutting.Reads.{bytes_closed, done, fault_closed, frames_closed, left_of}
use Rattle.mc_laws.proofs.Cutting.Reads.{bytes_open}

-- owed other bytes
abbrev pub owing : List ℕ → Link → Link
owing owed l = record l { owed = owed }

abbrev pub seat_owing : List ℕ → Seat → Seat
seat_owing owed s = record s { link = owing owed s.link }

abbrev pub turn_owing : List ℕ → Turn → Turn
turn_owing owed t = record { seat = seat_owing owed t.seat; handed = t.handed }

-- it is the same but that less is owed
pub record OwesLess (t u : Turn) : Type 0 where
  pub owed : List ℕ
  pub less : length owed ≤ length t.seat.link.owed
  pub is : u ≡ turn_owing owed t

-- ---- handing out

record HandsLess (h g : Handing) : Type 0 where
  owed : List ℕ
  less : length owed ≤ length h.link.owed
  is : g ≡ record { link = owing owed h.link; handed = h.handed }

hand_less : (l : Link) (packets : List Sent) (owed : List ℕ) → length owed ≤ length l.owed →
    ¬ IsFull (hand l packets).link → HandsLess (hand l packets) (hand (owing owed l) packets)
unfolding hand
hand_less l packets owed less = hand_cases l packets
    (λ (h : Handing). ¬ IsFull h.link → HandsLess h (hand (owing owed l) packets))
    (λ fits room.
    let most = leb-true _ _ fits in
    record {
      owed = owed ++ bytes_of packets;
      less = omega (
        arith,
        less,
        length-append owed (bytes_of packets),
        length-append l.owed (bytes_of packets),
      );
      is = rw (le-leb (length owed + length (bytes_of packets)) outbox_max
          (omega (arith, less, most))) refl;
    })
    (λ much room. absurd (room (record { closed = refl; cause = refl })))

turn_less : (k : ℕ) (s : Seat) (l : Link) (packets : List Sent) (owed : List ℕ) →
    length owed ≤ length l.owed → ¬ IsFull (hand l packets).link →
    OwesLess (turn k s (hand l packets))
    (turn k (seat_owing owed s) (hand (owing owed l) packets))
turn_less k s l packets owed less room =
    let h = hand_less l packets owed less room in
    record {
      owed = h.owed;
      less = h.less;
      is = ap (λ (g : Handing). turn k s g) h.is;
    }

still_less : (s : Seat) (owed : List ℕ) → length owed ≤ length s.link.owed →
    OwesLess (still s) (still (seat_owing owed s))
still_less s owed less = record { owed = owed; less = less; is = refl }

-- ---- what a frame comes to

module _ (k : ℕ) (s : Seat) (owed : List ℕ) (less : length owed ≤ length s.link.owed) where
  disconnect_less : (cause : Cause) → ¬ IsFull (disconnect_for k s cause).seat.link →
      OwesLess (disconnect_for k s cause) (disconnect_for k (seat_owing owed s) cause)
  disconnect_less cause room = turn_less k s (mark_closed s.link cause)
      (farewell s.link.stage cause) owed less room

  login_less : (name : List ℕ) (o : Option Refusal) →
      ¬ IsFull (answer_login k s name o).seat.link →
      OwesLess (answer_login k s name o) (answer_login k (seat_owing owed s) name o)
  login_less name (Some why) room = turn_less k s (mark_closed s.link (causes.Refused why))
      (refused why) owed less room
  login_less name None room = turn_less k (entered k s name) (entered k s name).link
      (accepted (offline_uuid name) name) owed less room

  heard_less : (packet : PlayUp) (g : Game) →
      OwesLess (still (record s { game = g; link = heard packet s.link }))
      (still (record s { game = g; link = heard packet (owing owed s.link) }))
  heard_less (KeepAlive beat) g = record { owed = owed; less = less; is = refl }
  heard_less other g = record { owed = owed; less = less; is = refl }

  acted_less : (packet : PlayUp) (o : Option Game) → ¬ IsFull (acted k s packet o).seat.link →
      OwesLess (acted k s packet o) (acted k (seat_owing owed s) packet o)
  acted_less packet (Some g) room = heard_less packet g
  acted_less packet None room = disconnect_less causes.BadNumber room

  perform_less : (x : ClientRequest) → ¬ IsFull (perform k s x).seat.link →
      OwesLess (perform k s x) (perform k (seat_owing owed s) x)
  perform_less nothing room = still_less s owed less
  perform_less (greets protocol stage) room = record { owed = owed; less = less; is = refl }
  perform_less (replies packet) room = turn_less k s s.link (of_status packet ∷ []) owed less room
  perform_less (ends packet) room = turn_less k s (mark_closed s.link causes.Done)
      (of_status packet ∷ []) owed less room
  perform_less (enters name) room = login_less name (refusal s.game s.link.protocol name) room
  perform_less (acts packet) room = acted_less packet (act s.game k packet) room
  perform_less (wrong fault) room = disconnect_less (causes.Packet fault) room

  frame_less : (frame : List ℕ) → ¬ IsFull (on_frame k s frame).seat.link →
      OwesLess (on_frame k s frame) (on_frame k (seat_owing owed s) frame)
  unfolding on_frame
  frame_less frame = elim (is_closed s.link.stage) as (λ b.
      ¬ IsFull (if b then still s else perform k s (asked_by s frame)).seat.link →
      OwesLess (if b then still s else perform k s (asked_by s frame))
      (if b then still (seat_owing owed s)
      else perform k (seat_owing owed s) (asked_by s frame))) [
        | true ↦ λ room. still_less s owed less
        | false ↦ λ room. perform_less (asked_by s frame) room
      ]

  fault_less : (fault : Option FrameFault) → ¬ IsFull (on_fault k s fault).seat.link →
      OwesLess (on_fault k s fault) (on_fault k (seat_owing owed s) fault)
  fault_less None room = still_less s owed less
  fault_less (Some fault) room = (elim (is_closed s.link.stage) as (λ b.
      ¬ IsFull (if b then still s else disconnect_for k s (causes.Frame fault)).seat.link →
      OwesLess (if b then still s else disconnect_for k s (causes.Frame fault))
      (if b then still (seat_owing owed s)
      else disconnect_for k (seat_owing owed s) (causes.Frame fault))) [
        | true ↦ λ room. still_less s owed less
        | false ↦ λ room. disconnect_less (causes.Frame fault) room
      ]) room

-- ---- one thing after another

after_less : (t u : Turn) (f : Seat → Turn) → OwesLess t u →
    ((owed : List ℕ) → length owed ≤ length t.seat.link.owed →
    ¬ IsFull (f t.seat).seat.link → OwesLess (f t.seat) (f (seat_owing owed t.seat))) →
    ¬ IsFull (after t f).seat.link → OwesLess (after t f) (after u f)
after_less t u f a later room =
    let b = later a.owed a.less room in
    record {
      owed = b.owed;
      less = b.less;
      is = ap (λ (v : Turn). after v f) a.is
          ∙ ap (λ (v : Turn). record { seat = v.seat; handed = t.handed ++ v.handed }) b.is;
    }

-- what was full before is so behind it
room_before : (t : Turn) (f : Seat → Turn) →
    (is_closed t.seat.link.stage ≡ true → f t.seat ≡ still t.seat) →
    ¬ IsFull (after t f).seat.link → ¬ IsFull t.seat.link
room_before t f stays room full = room (subst (λ (v : Turn). IsFull v.seat.link)
    (sym (stays full.closed)) full)

frames_less : (k : ℕ) (frames : List (List ℕ)) (s : Seat) (owed : List ℕ) →
    length owed ≤ length s.link.owed → ¬ IsFull (on_frames k s frames).seat.link →
    OwesLess (on_frames k s frames) (on_frames k (seat_owing owed s) frames)
frames_less k [] s owed less room = still_less s owed less
frames_less k (frame ∷ frames) s owed less room =
    let first = on_frame k s frame in
    let next : Seat → Turn = λ t. on_frames k t frames in
    after_less first (on_frame k (seat_owing owed s) frame) next
    (frame_less k s owed less frame (room_before first next
    (λ closed. frames_closed k first.seat frames closed) room))
    (λ owed less room. frames_less k frames first.seat owed less room) room

done_less : (k : ℕ) (s : Seat) (frames : List (List ℕ)) (fault : Option FrameFault)
    (owed : List ℕ) → length owed ≤ length s.link.owed →
    ¬ IsFull (done k s frames fault).seat.link →
    OwesLess (done k s frames fault) (done k (seat_owing owed s) frames fault)
done_less k s frames fault owed less room =
    let first = on_frames k s frames in
    let next : Seat → Turn = λ t. on_fault k t fault in
    after_less first (on_frames k (seat_owing owed s) frames) next
    (frames_less k frames s owed less (room_before first next
    (λ closed. fault_closed k first.seat fault closed) room))
    (λ owed less room. fault_less k first.seat owed less fault room) room

pub bytes_less : (k : ℕ) (s : Seat) (bytes owed : List ℕ) → length owed ≤ length s.link.owed →
    ¬ IsFull (on_bytes k s bytes).seat.link →
    OwesLess (on_bytes k s bytes) (on_bytes k (seat_owing owed s) bytes)
bytes_less k s bytes owed less room = step (is_closed s.link.stage) refl
  where
    step : (b : Bool) → is_closed s.link.stage ≡ b →
        OwesLess (on_bytes k s bytes) (on_bytes k (seat_owing owed s) bytes)
    step true t = rw (bytes_closed k s bytes t, bytes_closed k (seat_owing owed s) bytes t)
        (still_less s owed less)
    step false t =
        let cut = cut_of s.unread.before (s.unread.rest ++ bytes) in
        let one = bytes_open k s bytes t in
        let d = done_less k s cut.frames cut.fault owed less
        (subst (λ (v : Turn). ¬ IsFull v.seat.link) one room) in
        rw (one, bytes_open k (seat_owing owed s) bytes t) (record {
          owed = d.owed;
          less = d.less;
          is = ap (λ (v : Turn). elsewhere (left_of s bytes) v) d.is;
        })
