-- What a frame comes to, done: the step that a session answers to it is done as the definitions do
-- what it comes to.
use Rattle.std.proofs.Common.{◌≡◌, ℕ, List, [], ◌∷◌, refl, sym, subst, ap, ◌∙◌}
use Rattle.std.proofs.lemmas.List.{append-nil}
use Rattle.std.specs.Prelude.{Option, Some, None, Result, Ok, Err, if◌then◌else◌}
use Rattle.std.specs.FinMap.{len}
use lib.IntN.{ℤ}
use Rattle.mc_bytes.specs.Reading.{IsBytes}
use Rattle.mc_fields.specs.declared.packet.PacketFault.{PacketFault}
use Rattle.mc_fields.specs.Row.{packet_of, packet_read}
use Rattle.mc_fields.specs.RowLaws.{packet_found_all}
use Rattle.mc_up.specs.declared.play_up.PlayUp.{PlayUp}
use Rattle.mc_up.specs.PlayUp.{FitsPlayUp, SpellsPlayUp, rows}
use Rattle.mc_up.proofs.PlayUpLaws.{fit, seen}
use Rattle.mc_hello.specs.declared.handshake.Hand.{Hand}
use Rattle.mc_hello.specs.declared.handshake.Hand.TheVariants.{Handshake}
use Rattle.mc_hello.specs.declared.status_up.StatusUp.{StatusUp}
use Rattle.mc_hello.specs.declared.status_up.StatusUp.TheVariants.{Request, Ping}
use Rattle.mc_hello.specs.declared.login_up.LoginUp.{LoginUp}
use Rattle.mc_hello.specs.declared.login_up.LoginUp.TheVariants.{Start}
use Rattle.mc_hello.specs.Hand as hand_rows
use Rattle.mc_hello.specs.StatusUp as status
use Rattle.mc_hello.specs.LoginUp as login
use Rattle.mc_model.specs.declared.cause.Cause.{Cause}
use Rattle.mc_model.specs.declared.cause.Cause.TheVariants as causes
use Rattle.mc_model.specs.declared.cause.Refusal.{Refusal}
use Rattle.mc_model.specs.declared.stage.Stage.{Stage}
use Rattle.mc_model.specs.declared.stage.Stage.TheVariants as stages
use Rattle.mc_model.specs.Packets.{Sent, bytes_of, frame_of, of_status}
use Rattle.mc_model.specs.Talk.{ClientRequest, replies, ends, enters, acts, wrong, in_hand}
use Rattle.mc_model.specs.Talk.{in_login, in_play, in_status, request_of}
use Rattle.mc_model.specs.Stages.{is_closed}
use Rattle.mc_session.specs.State.{State}
use Rattle.mc_session.specs.Answers.{step_of}
use Rattle.mc_session.specs.declared.step.Step.TheVariants as steps
use Rattle.mc_model.specs.Acts.{act}
use Rattle.mc_model.specs.Game.{Game}
use Rattle.mc_model.specs.Link.{Link, disconnect, hand}
use Rattle.mc_model.specs.Step.{acted, answer_login, disconnect_for, on_frame, perform, refusal}
use Rattle.mc_model.specs.Step.{still, turn}
use Rattle.mc_model.specs.World.{Seat, Unread}
use Rattle.mc_play.specs.Admitting.{IsAnswer}
use Rattle.mc_play.specs.Kept.{GameValue}
use Rattle.mc_links.specs.Kept.{ConnectionValue, decoded, state_of}
use Rattle.mc_links.specs.Seats.{Becomes, seat_with}

-- ---- logging in

-- a client that is let in has its name, and nothing refuses it
let_in : (g : Game) (o : Option Refusal) (name given : List ℕ) → IsAnswer g name o (Ok given) →
    (given ≡ name) × (None ≡ o)
let_in g None name given is = let same : given ≡ name = cc (is.0) in (same, refl)
let_in g (Some why) name given is = absurd cc

pub login_entered : (P : Seat → Type 0) (k : ℕ) (s : Seat) (protocol : ℤ) (name given : List ℕ) →
    protocol ≡ s.link.protocol → IsAnswer s.game name (refusal s.game protocol name) (Ok given) →
    P (answer_login k s given None).seat →
    P (answer_login k s name (refusal s.game s.link.protocol name)).seat
login_entered P k s protocol name given same is done =
    let it = let_in s.game (refusal s.game protocol name) name given is in
    subst (λ (z : ℤ). P (answer_login k s name (refusal s.game z name)).seat) same
    (subst (λ (o : Option Refusal). P (answer_login k s name o).seat) it.1
    (subst (λ (n : List ℕ). P (answer_login k s n None).seat) it.0 done))

-- ---- steps

-- the bytes of one packet
pub one_packet : (bytes : List ℕ) (packet : Sent) → bytes ≡ frame_of packet →
    bytes ≡ bytes_of (packet ∷ [])
one_packet bytes packet is = is ∙ sym (append-nil (frame_of packet))

module _ (P : Seat → Type 0) (k : ℕ) (g : Game) (before link : Link) (unread : Unread) where
  abbrev at : Link → Seat
  at l = record { game = g; link = l; unread = unread }

  pub reply_performs : (what : ClientRequest) (bytes : List ℕ) → link ≡ decoded before what →
      steps.Reply bytes ≡ step_of (state_of before) what →
      ((packets : List Sent) → bytes ≡ bytes_of packets →
      P (turn k (at link) (hand link packets)).seat) → P (perform k (at before) what).seat
  reply_performs (replies packet) bytes same is done =
      let e : bytes ≡ frame_of (of_status packet) = cc in
      subst (λ (l : Link). P (turn k (at l) (hand l (of_status packet ∷ []))).seat) same
      (done (of_status packet ∷ []) (one_packet bytes (of_status packet) e))
  reply_performs other bytes same is done = absurd cc

  pub reply_last_performs : (what : ClientRequest) (bytes : List ℕ) (cause : Cause) →
      link ≡ decoded before what → steps.ReplyClose bytes cause ≡ step_of (state_of before) what →
      ((packets : List Sent) → bytes ≡ bytes_of packets →
      P (turn k (at link) (disconnect link cause packets)).seat) →
      P (perform k (at before) what).seat
  reply_last_performs (ends packet) bytes cause same is done =
      let e : bytes ≡ frame_of (of_status packet) = cc in
      let f : cause ≡ causes.Done = cc in
      subst (λ (c : Cause). P (turn k (at before)
      (disconnect before c (of_status packet ∷ []))).seat) f
      (subst (λ (l : Link). P (turn k (at l) (disconnect l cause (of_status packet ∷ []))).seat)
      same (done (of_status packet ∷ []) (one_packet bytes (of_status packet) e)))
  reply_last_performs other bytes cause same is done = absurd cc

  pub enter_performs : (what : ClientRequest) (name : List ℕ) (protocol : ℤ) →
      link ≡ decoded before what → steps.Enter name protocol ≡ step_of (state_of before) what →
      (link ≡ record before { stage = stages.Asked } →
      P (answer_login k (at before) name (refusal g before.protocol name)).seat) →
      P (perform k (at before) what).seat
  enter_performs (enters given) name protocol same is done =
      let e : name ≡ given = cc in
      subst (λ (n : List ℕ). P (answer_login k (at before) n
      (refusal g before.protocol n)).seat) e (done same)
  enter_performs other name protocol same is done = absurd cc

  pub act_performs : (what : ClientRequest) (packet : PlayUp) → link ≡ decoded before what →
      steps.Act packet ≡ step_of (state_of before) what →
      P (acted k (at link) packet (act g k packet)).seat → P (perform k (at before) what).seat
  act_performs (acts given) packet same is done =
      let e : packet ≡ given = cc in
      subst (λ (p : PlayUp). P (acted k (at before) p (act g k p)).seat) e
      (subst (λ (l : Link). P (acted k (at l) packet (act g k packet)).seat) same done)
  act_performs other packet same is done = absurd cc

  pub close_performs : (what : ClientRequest) (cause : Cause) → link ≡ decoded before what →
      steps.Close cause ≡ step_of (state_of before) what →
      P (disconnect_for k (at link) cause).seat → P (perform k (at before) what).seat
  close_performs (wrong fault) cause same is done =
      let e : cause ≡ causes.Packet fault = cc in
      subst (λ (c : Cause). P (disconnect_for k (at before) c).seat) e
      (subst (λ (l : Link). P (disconnect_for k (at l) cause).seat) same done)
  close_performs other cause same is done = absurd cc

-- ---- frames

-- a packet that a frame comes to has a spelling
read_fits : (r : Result PlayUp PacketFault) (packet : PlayUp) (frame : List ℕ) → IsBytes frame →
    r ≡ packet_of frame (packet_read rows frame) → in_play r ≡ acts packet → FitsPlayUp packet
read_fits (Ok p) packet frame bytes is e =
    let same : p ≡ packet = cc in
    subst FitsPlayUp same (fit p frame
    (packet_found_all rows SpellsPlayUp seen frame (Ok p) bytes is))
read_fits (Err fault) packet frame bytes is e = absurd cc

hand_never : (r : Result Hand PacketFault) (packet : PlayUp) → in_hand r ≡ acts packet → ⊥
hand_never (Ok (Handshake protocol address port next)) packet e = cc
hand_never (Err fault) packet e = cc

status_never : (most online : ℕ) (r : Result StatusUp PacketFault) (packet : PlayUp) →
    in_status most online r ≡ acts packet → ⊥
status_never most online (Ok Request) packet e = cc
status_never most online (Ok (Ping number)) packet e = cc
status_never most online (Err fault) packet e = cc

login_never : (r : Result LoginUp PacketFault) (packet : PlayUp) → in_login r ≡ acts packet → ⊥
login_never (Ok (Start name)) packet e = cc
login_never (Err fault) packet e = cc

acts_fit : (stage : Stage) (most online : ℕ) (frame : List ℕ) (packet : PlayUp) → IsBytes frame →
    request_of stage most online frame ≡ acts packet → FitsPlayUp packet
unfolding request_of
acts_fit stages.Hand most online frame packet bytes e =
    absurd (hand_never (packet_of frame (packet_read hand_rows.rows frame)) packet e)
acts_fit stages.Status most online frame packet bytes e = absurd (status_never most online
    (packet_of frame (packet_read status.rows frame)) packet e)
acts_fit stages.Login most online frame packet bytes e =
    absurd (login_never (packet_of frame (packet_read login.rows frame)) packet e)
acts_fit stages.Asked most online frame packet bytes e = absurd cc
acts_fit stages.Play most online frame packet bytes e =
    read_fits (packet_of frame (packet_read rows frame)) packet frame bytes refl e
acts_fit stages.Closed most online frame packet bytes e = absurd cc

act_asked : (state : State) (what : ClientRequest) (packet : PlayUp) →
    steps.Act packet ≡ step_of state what → what ≡ acts packet
act_asked state (acts given) packet is = cc
act_asked state other packet is = absurd cc

pub step_fits : (state : State) (stage : Stage) (most online : ℕ) (frame : List ℕ)
    (packet : PlayUp) → IsBytes frame →
    steps.Act packet ≡ step_of state (request_of stage most online frame) → FitsPlayUp packet
step_fits state stage most online frame packet bytes is =
    acts_fit stage most online frame packet bytes
    (act_asked state (request_of stage most online frame) packet is)

-- a frame of any connection: that of a closed one comes to nothing
frame_performs : (k : ℕ) (s : Seat) (frame : List ℕ) → (perform k s (request_of s.link.stage
    s.game.settings.players (len s.game.players) frame)).seat ≡ (on_frame k s frame).seat
unfolding on_frame request_of
frame_performs k s frame = step s.link.stage
  where
    step : (stage : Stage) → (perform k s (request_of stage s.game.settings.players
        (len s.game.players) frame)).seat
        ≡ (if is_closed stage then still s else perform k s (request_of stage
        s.game.settings.players (len s.game.players) frame)).seat
    step stages.Closed = refl
    step other = refl

pub frame_becomes : (v w : GameValue) (c m e : ConnectionValue) (most online : ℕ)
    (frame : List ℕ) (unread : Unread) → most ≡ v.game.settings.players →
    online ≡ len v.game.players →
    m ≡ record c { link = decoded c.link (request_of c.link.stage most online frame) } →
    Becomes v w m e (perform m.id (seat_with v c unread)
    (request_of c.link.stage most online frame)).seat →
    Becomes v w c e (on_frame c.id (seat_with v c unread) frame).seat
frame_becomes v w c m e most online frame unread many few next b =
    let P : Seat → Type 0 = λ t. Becomes v w c e t in
    let what : ClientRequest = request_of c.link.stage most online frame in
    let named : m.id ≡ c.id = ap (λ (d : ConnectionValue). d.id) next in
    let t : Seat = (perform m.id (seat_with v c unread) what).seat in
    let here : P t = record {
      game = b.game;
      link = b.link ∙ ap (λ (d : ConnectionValue). record d { link = t.link }) next;
    } in
    let asked : what ≡ request_of c.link.stage v.game.settings.players (len v.game.players) frame =
    ap (λ (n : ℕ). request_of c.link.stage n online frame) many
    ∙ ap (λ (n : ℕ). request_of c.link.stage v.game.settings.players n frame) few in
    subst P (frame_performs c.id (seat_with v c unread) frame)
    (subst (λ (x : ClientRequest). P (perform c.id (seat_with v c unread) x).seat) asked
    (subst (λ (k : ℕ). P (perform k (seat_with v c unread) what).seat) named here))
