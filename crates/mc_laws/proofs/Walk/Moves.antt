-- What the bytes of one connection can do, case by case, with what it is handed: the one relation
-- that every law over runs is proved by. And that whatever bytes come do no more.
use Rattle.std.proofs.Common.{◌≡◌, ◌≢◌, ℕ, List, [], ◌∷◌, ◌++◌, refl, sym, subst, ap, ◌∙◌}
use Rattle.std.proofs.Common.{append_assoc}
use Rattle.std.specs.Prelude.{Bool, true, false, Option, Some, None, Result, Ok, Err, length, ◌==◌}
use Rattle.std.specs.Prelude.{if◌then◌else◌}
use Rattle.std.proofs.lemmas.List.{append-nil}
use lib.IntN.{ℤ, pos, negsuc}
use Rattle.mc_fields.specs.declared.packet.PacketFault.{PacketFault}
use Rattle.mc_fields.specs.Row.{packet_read, packet_of}
use Rattle.mc_frame.specs.declared.fault.FrameFault.{FrameFault}
use Rattle.mc_frame.specs.Cut.{Cut}
use Rattle.mc_hello.specs.declared.handshake.Hand.{Hand}
use Rattle.mc_hello.specs.declared.handshake.Hand.TheVariants.{Handshake}
use Rattle.mc_hello.specs.declared.status_up.StatusUp.{StatusUp}
use Rattle.mc_hello.specs.declared.status_up.StatusUp.TheVariants.{Request, Ping}
use Rattle.mc_hello.specs.declared.status_down.StatusDown.{StatusDown}
use Rattle.mc_hello.specs.declared.login_up.LoginUp.{LoginUp}
use Rattle.mc_hello.specs.declared.login_up.LoginUp.TheVariants.{Start}
use Rattle.mc_hello.specs.Hand as hand_rows
use Rattle.mc_hello.specs.StatusUp as status
use Rattle.mc_hello.specs.LoginUp as login
use Rattle.mc_up.specs.declared.play_up.PlayUp.{PlayUp}
use Rattle.mc_up.specs.PlayUp as play
use Rattle.mc_model.specs.declared.cause.Cause.{Cause}
use Rattle.mc_model.specs.declared.cause.Cause.TheVariants as causes
use Rattle.mc_model.specs.declared.cause.Refusal.{Refusal}
use Rattle.mc_model.specs.declared.stage.Stage.{Stage}
use Rattle.mc_model.specs.declared.stage.Stage.TheVariants as stages
use Rattle.mc_model.specs.Cutting.{cut_of}
use Rattle.mc_model.specs.Names.{offline_uuid}
use Rattle.mc_model.specs.Packets.{Sent, of_status}
use Rattle.mc_model.specs.Talk.{ClientRequest, nothing, greets, replies, ends, enters, acts, wrong}
use Rattle.mc_model.specs.Talk.{request_of, in_hand, in_status, in_login, in_play, wanted, farewell}
use Rattle.mc_model.specs.Talk.{refused, accepted}
use Rattle.mc_model.specs.Stages.{is_closed, is_play}
use Rattle.mc_model.specs.Game.{Game}
use Rattle.mc_model.specs.Acts.{act}
use Rattle.mc_model.specs.Link.{disconnect, hand}
use Rattle.mc_model.specs.World.{Seat, Turn, Unread}
use Rattle.mc_model.specs.Step.{acted, answer_login, asked_by, disconnect_for, entered, heard}
use Rattle.mc_model.specs.Step.{on_bytes, on_cut, on_fault, on_frame, on_frames, perform, read_to}
use Rattle.mc_model.specs.Step.{refusal, still, turn, when_open}

-- ---- which answers a stage has

-- what a frame can come to at a stage
abbrev pub Suits : Stage → ClientRequest → Type 0
Suits stage nothing = Unit {0}
Suits stage (greets protocol to) = (stage ≡ stages.Hand) × (is_play to ≡ false)
    × (is_closed to ≡ false)
Suits stage (replies packet) = stage ≡ stages.Status
Suits stage (ends packet) = stage ≡ stages.Status
Suits stage (enters name) = stage ≡ stages.Login
Suits stage (acts packet) = stage ≡ stages.Play
Suits stage (wrong fault) = Unit {0}

wanted_waits : (n : ℤ) → (is_play (wanted n) ≡ false) × (is_closed (wanted n) ≡ false)
wanted_waits (pos n) = elim (n == 1) as
    (λ b. (is_play (if b then stages.Status else stages.Login) ≡ false)
    × (is_closed (if b then stages.Status else stages.Login) ≡ false)) [
      | true ↦ (refl, refl)
      | false ↦ (refl, refl)
    ]
wanted_waits (negsuc n) = (refl, refl)

hand_suits : (r : Result Hand PacketFault) → Suits stages.Hand (in_hand r)
hand_suits (Ok (Handshake protocol address port next)) = let w = wanted_waits next in
    (refl, w.0, w.1)
hand_suits (Err fault) = tt

status_suits : (most online : ℕ) (r : Result StatusUp PacketFault) →
    Suits stages.Status (in_status most online r)
status_suits most online (Ok Request) = refl
status_suits most online (Ok (Ping number)) = refl
status_suits most online (Err fault) = tt

login_suits : (r : Result LoginUp PacketFault) → Suits stages.Login (in_login r)
login_suits (Ok (Start name)) = refl
login_suits (Err fault) = tt

play_suits : (r : Result PlayUp PacketFault) → Suits stages.Play (in_play r)
play_suits (Ok packet) = refl
play_suits (Err fault) = tt

pub suits : (stage : Stage) (most online : ℕ) (frame : List ℕ) →
    Suits stage (request_of stage most online frame)
unfolding request_of
suits stages.Hand most online frame =
    hand_suits (packet_of frame (packet_read hand_rows.rows frame))
suits stages.Status most online frame =
    status_suits most online (packet_of frame (packet_read status.rows frame))
suits stages.Login most online frame = login_suits (packet_of frame (packet_read login.rows frame))
suits stages.Asked most online frame = tt
suits stages.Play most online frame = play_suits (packet_of frame (packet_read play.rows frame))
suits stages.Closed most online frame = tt

-- ---- moves

-- the last packets of a connection: the farewell of its stage, the answer to a ping, or the reason
-- why it may not play
pub data AreLast (stage : Stage) (cause : Cause) (packets : List Sent) : Type 0 where
  bids_farewell : packets ≡ farewell stage cause → AreLast stage cause packets
  pongs : (packet : StatusDown) → stage ≡ stages.Status → cause ≡ causes.Done →
      packets ≡ of_status packet ∷ [] → AreLast stage cause packets
  refuses : (why : Refusal) → stage ≡ stages.Login → cause ≡ causes.Refused why →
      packets ≡ refused why → AreLast stage cause packets

pub data OutMove (k : ℕ) (s : Seat) (t : Turn) : Type 0 where
  -- bytes are kept unread
  keeps : (unread : Unread) → t ≡ still (record s { unread = unread }) → OutMove k s t
  -- its player does something
  does : (packet : PlayUp) (game : Game) → s.link.stage ≡ stages.Play →
      act s.game k packet ≡ Some game →
      t ≡ still (record s { game = game; link = heard packet s.link }) → OutMove k s t
  -- it says what it wants
  shakes : (protocol : ℤ) (stage : Stage) → s.link.stage ≡ stages.Hand → is_play stage ≡ false →
      is_closed stage ≡ false →
      t ≡ still (record s { link = record s.link { stage = stage; protocol = protocol } }) →
      OutMove k s t
  -- it is answered the status
  answers : (packet : StatusDown) → s.link.stage ≡ stages.Status →
      t ≡ turn k s (hand s.link (of_status packet ∷ [])) → OutMove k s t
  -- it is closed, with its last packets
  closes : (cause : Cause) (packets : List Sent) → is_closed s.link.stage ≡ false →
      AreLast s.link.stage cause packets → cause ≢ causes.Backlog →
      t ≡ turn k s (disconnect s.link cause packets) → OutMove k s t
  -- its player enters
  comes_in : (name : List ℕ) → s.link.stage ≡ stages.Login →
      refusal s.game s.link.protocol name ≡ None →
      t ≡ turn k (entered k s name)
      (hand (entered k s name).link (accepted (offline_uuid name) name)) → OutMove k s t

-- moves one after another
abbrev pub AreMoves : ℕ → Seat → List Turn → Turn → Type 0
AreMoves k s [] t = t ≡ still s
AreMoves k s (u ∷ us) t = OutMove k s u × ((v : Turn) × AreMoves k u.seat us v
    × (t ≡ record { seat = v.seat; handed = u.handed ++ v.handed }))

pub record Walked (k : ℕ) (s : Seat) (t : Turn) : Type 0 where
  pub moves : List Turn
  pub are : AreMoves k s moves t

pub walked_still : (k : ℕ) (s : Seat) → Walked k s (still s)
walked_still k s = record { moves = []; are = refl }

pub walked_by : (k : ℕ) (s : Seat) (t : Turn) → OutMove k s t → Walked k s t
walked_by k s t move = record {
  moves = t ∷ [];
  are = (
    move,
    (
      still t.seat,
      refl,
      ap (λ (ps : List Sent). record { seat = t.seat; handed = ps })
          (sym (append-nil t.handed)),
    ),
  );
}

pub walked_on : (k : ℕ) (s : Seat) (t u : Turn) → Walked k s t → Walked k t.seat u →
    Walked k s (record { seat = u.seat; handed = t.handed ++ u.handed })
walked_on k s t u a b = record {
  moves = a.moves ++ b.moves;
  are = join k s u b.moves a.moves t a.are b.are;
}
  where
    join : (k : ℕ) (s : Seat) (u : Turn) (later us : List Turn) (t : Turn) →
        AreMoves k s us t → AreMoves k t.seat later u →
        AreMoves k s (us ++ later) (record { seat = u.seat; handed = t.handed ++ u.handed })
    join k s u later [] t is then_ = subst (λ (x : Turn). AreMoves k x.seat later u →
        AreMoves k s later (record { seat = u.seat; handed = x.handed ++ u.handed })) (sym is)
        (λ are. are) then_
    join k s u later (m ∷ us) t are then_ =
        let v = are.1.0 in
        let is = are.1.2 in (
          are.0,
          (
            record { seat = u.seat; handed = v.handed ++ u.handed },
            join k m.seat u later us v are.1.1
                (subst (λ (x : Turn). AreMoves k x.seat later u) is then_),
            ap (λ (x : Turn). record { seat = u.seat; handed = x.handed ++ u.handed }) is
                ∙ ap (λ (ps : List Sent). record { seat = u.seat; handed = ps })
                (append_assoc m.handed v.handed u.handed),
          ),
        )

-- what each move keeps holds after any moves
abbrev pub Kept : ℕ → (Seat → List Sent → Type 0) → Type 0
Kept k P = (s : Seat) (t : Turn) (ps : List Sent) → OutMove k s t → P s ps →
    P t.seat (ps ++ t.handed)

pub walked_keeps : (k : ℕ) (P : Seat → List Sent → Type 0) → Kept k P → (s : Seat) (t : Turn)
    (ps : List Sent) → Walked k s t → P s ps → P t.seat (ps ++ t.handed)
walked_keeps k P kept s t ps walked p = along s walked.moves t ps walked.are p
  where
    along : (s : Seat) (us : List Turn) (t : Turn) (ps : List Sent) → AreMoves k s us t →
        P s ps → P t.seat (ps ++ t.handed)
    along s [] t ps is p = subst (λ (x : Turn). P x.seat (ps ++ x.handed)) (sym is)
        (subst (λ (qs : List Sent). P s qs) (sym (append-nil ps)) p)
    along s (u ∷ us) t ps are p =
        subst (λ (x : Turn). P x.seat (ps ++ x.handed)) (sym are.1.2)
        (subst (λ (qs : List Sent). P are.1.0.seat qs) (append_assoc ps u.handed are.1.0.handed)
        (along u.seat us are.1.0 (ps ++ u.handed) are.1.1 (kept s u ps are.0 p)))

-- ---- what a frame comes to

open_case : (k : ℕ) (s : Seat) (f : Seat → Turn) →
    (is_closed s.link.stage ≡ false → Walked k s (f s)) → Walked k s (when_open s f)
open_case k s f does_ = step (is_closed s.link.stage) refl
  where
    step : (b : Bool) → is_closed s.link.stage ≡ b → Walked k s (if b then still s else f s)
    step true t = walked_still k s
    step false t = does_ t

login_moves : (k : ℕ) (s : Seat) (name : List ℕ) (o : Option Refusal) →
    refusal s.game s.link.protocol name ≡ o → s.link.stage ≡ stages.Login →
    is_closed s.link.stage ≡ false → OutMove k s (answer_login k s name o)
login_moves k s name (Some why) is at open_ =
    closes (causes.Refused why) (refused why) open_ (refuses why at refl refl)
    (λ e. cc) refl
login_moves k s name None is at open_ = comes_in name at is refl

acted_moves : (k : ℕ) (s : Seat) (packet : PlayUp) (o : Option Game) → act s.game k packet ≡ o →
    s.link.stage ≡ stages.Play → is_closed s.link.stage ≡ false →
    OutMove k s (acted k s packet o)
acted_moves k s packet (Some g) is at open_ = does packet g at is refl
acted_moves k s packet None is at open_ =
    closes causes.BadNumber (farewell s.link.stage causes.BadNumber) open_ (bids_farewell refl)
    (λ e. cc) refl

perform_walks : (k : ℕ) (s : Seat) (x : ClientRequest) → is_closed s.link.stage ≡ false →
    Suits s.link.stage x → Walked k s (perform k s x)
perform_walks k s nothing open_ fit = walked_still k s
perform_walks k s (greets protocol stage) open_ fit =
    walked_by k s _ (shakes protocol stage fit.0 fit.1 fit.2 refl)
perform_walks k s (replies packet) open_ fit = walked_by k s _ (answers packet fit refl)
perform_walks k s (ends packet) open_ fit =
    walked_by k s _ (closes causes.Done (of_status packet ∷ []) open_
    (pongs packet fit refl refl) (λ e. cc) refl)
perform_walks k s (enters name) open_ fit =
    walked_by k s _ (login_moves k s name (refusal s.game s.link.protocol name) refl fit open_)
perform_walks k s (acts packet) open_ fit =
    walked_by k s _ (acted_moves k s packet (act s.game k packet) refl fit open_)
perform_walks k s (wrong fault) open_ fit =
    walked_by k s _ (closes (causes.Packet fault) (farewell s.link.stage (causes.Packet fault))
    open_ (bids_farewell refl) (λ e. cc) refl)

pub frame_walks : (k : ℕ) (s : Seat) (frame : List ℕ) → Walked k s (on_frame k s frame)
unfolding on_frame
frame_walks k s frame = open_case k s (λ (s : Seat). perform k s (asked_by s frame))
    (λ open_. perform_walks k s (asked_by s frame) open_ (suits s.link.stage _ _ frame))

pub frames_walk : (k : ℕ) (s : Seat) (frames : List (List ℕ)) → Walked k s (on_frames k s frames)
frames_walk k s [] = walked_still k s
frames_walk k s (frame ∷ frames) =
    walked_on k s (on_frame k s frame) (on_frames k (on_frame k s frame).seat frames)
    (frame_walks k s frame) (frames_walk k (on_frame k s frame).seat frames)

pub fault_walks : (k : ℕ) (s : Seat) (o : Option FrameFault) → Walked k s (on_fault k s o)
fault_walks k s None = walked_still k s
fault_walks k s (Some fault) = open_case k s
    (λ (s : Seat). disconnect_for k s (causes.Frame fault))
    (λ open_. walked_by k s _ (closes (causes.Frame fault)
    (farewell s.link.stage (causes.Frame fault)) open_ (bids_farewell refl) (λ e. cc) refl))

cut_walks : (k : ℕ) (s : Seat) (count : ℕ) (cut : Cut) → Walked k s (on_cut k s count cut)
cut_walks k s count cut =
    let read = read_to s cut count in
    let t = on_frames k read cut.frames in
    walked_on k s (still read) (on_cut k s count cut)
    (walked_by k s (still read) (keeps read.unread refl))
    (walked_on k read t (on_fault k t.seat cut.fault) (frames_walk k read cut.frames)
    (fault_walks k t.seat cut.fault))

pub bytes_walk : (k : ℕ) (s : Seat) (bytes : List ℕ) → Walked k s (on_bytes k s bytes)
unfolding on_bytes
bytes_walk k s bytes = open_case k s
    (λ (s : Seat). on_cut k s (length (s.unread.rest ++ bytes))
    (cut_of s.unread.before (s.unread.rest ++ bytes)))
    (λ open_. cut_walks k s (length (s.unread.rest ++ bytes))
    (cut_of s.unread.before (s.unread.rest ++ bytes)))
