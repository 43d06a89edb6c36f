-- A frame that is answered where it stands is one that was taken and done.
use Rattle.std.proofs.Common.{◌≡◌, ℕ, ◌+◌, ◌<◌, Bool, true, false, List, [], ◌∷◌, ◌++◌, length}
use Rattle.std.proofs.Common.{nat_le, refl, sym, subst, ap, ◌∙◌}
use Rattle.std.specs.Prelude.{Option, Some, None, if◌then◌else◌}
use Rattle.std.specs.FinMap.{len}
use Rattle.mc_frame.specs.Held.{Splitting}
use Rattle.mc_frame.specs.Kept.{outbox_max}
use Rattle.mc_frame.specs.Splitting.{TakesFrame}
use Rattle.mc_hello.specs.declared.status_down.StatusDown.{StatusDown}
use Rattle.mc_model.specs.declared.cause.Cause.{Cause}
use Rattle.mc_model.specs.declared.stage.Stage.{Stage}
use Rattle.mc_model.specs.declared.stage.Stage.TheVariants as stages
use Rattle.mc_model.specs.Packets.{frame_of, of_status}
use Rattle.mc_model.specs.Talk.{ClientRequest, replies, request_of}
use Rattle.mc_model.specs.Stages.{is_closed}
use Rattle.mc_session.specs.State.{State}
use Rattle.mc_session.specs.Answers.{step_of}
use Rattle.mc_session.specs.declared.step.Step.TheVariants as steps
use Rattle.mc_model.specs.Leaving.{leave}
use Rattle.mc_model.specs.Link.{hand}
use Rattle.mc_model.specs.Step.{on_frame, perform, turn}
use Rattle.mc_model.specs.World.{Unread}
use Rattle.mc_play.specs.Kept.{GameValue, played}
use Rattle.mc_links.specs.Kept.{ConnectionValue, decoded, stage_of}
use Rattle.mc_links.specs.Replying.{HasReplied, MayReply}
use Rattle.mc_links.specs.Seats.{Becomes, IsReading, seat_with}
use Rattle.mc_links.proofs.Cuts.{frame_shortens}
use Rattle.mc_links.proofs.Handing.{hand_fits}
use Rattle.mc_links.proofs.Performing.{frame_becomes, one_packet}
use Rattle.mc_links.proofs.Reading.{reading_frame}

-- ---- a session answers

-- the packet that it answers with
pub record IsReply (what : ClientRequest) (bytes : List ℕ) : Type 0 where
  pub packet : StatusDown
  pub asked : what ≡ replies packet
  pub framed : bytes ≡ frame_of (of_status packet)

reply_is : (state : State) (what : ClientRequest) (bytes : List ℕ) →
    steps.Reply bytes ≡ step_of state what → IsReply what bytes
reply_is state (replies packet) bytes is = record { packet = packet; asked = refl; framed = cc }
reply_is state other bytes is = absurd cc

-- a connection that is at the status has no cause
asks_status : (cause : Option Cause) (stage : Stage) → stage_of cause stage ≡ stages.Status →
    stage ≡ stages.Status
asks_status None stage is = is
asks_status (Some cause) stage is = absurd cc

pub replied : (v c : ConnectionValue) (cause : Option Cause) (session : State) (most online : ℕ)
    (frame reply owed : List ℕ) (splitter : Splitting) (more : ℕ) (has : Bool) → v ≡ c →
    v.link.stage ≡ stage_of cause session.stage → c.link.stage ≡ stages.Status →
    steps.Reply reply ≡ step_of session (request_of session.stage most online frame) →
    more ≡ length reply → has ≡ nat_le (length v.link.owed + more) outbox_max → has ≡ true →
    owed ≡ v.link.owed ++ reply → TakesFrame v.splitter frame splitter →
    HasReplied most online c
    (record v { link = record v.link { owed = owed }; splitter = splitter })
replied v c cause session most online frame reply owed splitter more has same stage is step count
    test room put taken =
    let there : v.link.stage ≡ stages.Status =
    ap (λ (d : ConnectionValue). d.link.stage) same ∙ is in
    let at : session.stage ≡ c.link.stage =
    asks_status cause session.stage (sym stage ∙ there) ∙ sym is in
    let answer = reply_is session (request_of session.stage most online frame) reply step in
    record {
      frame = frame;
      packet = answer.packet;
      taken = subst (λ (d : ConnectionValue). TakesFrame d.splitter frame splitter) same taken;
      asked = ap (λ (s : Stage). request_of s most online frame) (sym at) ∙ answer.asked;
      handed = hand_fits (record v { splitter = splitter }) (record c { splitter = splitter })
          (of_status answer.packet ∷ []) reply owed (length v.link.owed) more has
          (ap (λ (d : ConnectionValue). record d { splitter = splitter }) same)
          (one_packet reply (of_status answer.packet) answer.framed) put
          (ap (λ (d : ConnectionValue). length d.link.owed) same) count test room;
      open_ = ap is_closed there;
    }

-- ---- what it comes to

module _ (v : GameValue) (c e : ConnectionValue) (most online : ℕ)
    (done : HasReplied most online c e) (many : most ≡ v.game.settings.players)
    (few : online ≡ len v.game.players) where
  -- the connection, once the frame was taken
  abbrev taken : ConnectionValue
  taken = record c { splitter = e.splitter }

  stays : is_closed (hand c.link (of_status done.packet ∷ [])).link.stage ≡ false
  stays = ap (λ (d : ConnectionValue). is_closed d.link.stage) (sym done.handed) ∙ done.open_

  turned : (u : Unread) → Becomes v v taken e
      (turn c.id (seat_with v taken u) (hand c.link (of_status done.packet ∷ []))).seat
  turned u = record {
    game = ap (λ (b : Bool). played v (if b then leave c.id v.game else v.game) v.aside)
        (sym stays);
    link = done.handed;
  }

  replied_becomes : (u : Unread) →
      Becomes v v taken e (on_frame c.id (seat_with v taken u) done.frame).seat
  replied_becomes u = frame_becomes v v taken taken e most online done.frame u many few
      (ap (λ (what : ClientRequest). record taken { link = decoded c.link what })
      (sym done.asked))
      (subst (λ (what : ClientRequest). Becomes v v taken e
      (perform c.id (seat_with v taken u) what).seat) (sym done.asked) (turned u))

  pub reply_read : {count : ℕ} {all left_ : List ℕ} {w : GameValue} {d : ConnectionValue} →
      IsReading count all w v d c left_ → IsReading count all w v d e left_
  reply_read r = reading_frame r taken refl v e done.frame done.taken replied_becomes

pub may_read : (v : GameValue) (c e : ConnectionValue) (most online : ℕ) (done : Bool) →
    MayReply done most online c e → most ≡ v.game.settings.players →
    online ≡ len v.game.players → (count : ℕ) (all left_ : List ℕ) (w : GameValue)
    (d : ConnectionValue) → IsReading count all w v d c left_ → IsReading count all w v d e left_
may_read v c e most online true done many few count all left_ w d r =
    reply_read v c e most online done many few r
may_read v c e most online false same many few count all left_ w d r =
    subst (λ (f : ConnectionValue). IsReading count all w v d f left_) (sym same) r

pub may_open : (c e : ConnectionValue) (most online : ℕ) (done : Bool) →
    MayReply done most online c e → is_closed c.link.stage ≡ false →
    is_closed e.link.stage ≡ false
may_open c e most online true done open_ = done.open_
may_open c e most online false same open_ =
    ap (λ (f : ConnectionValue). is_closed f.link.stage) same ∙ open_

pub may_shorten : (c e : ConnectionValue) (most online : ℕ) (done : Bool) →
    MayReply done most online c e → done ≡ true →
    length e.splitter.held < length c.splitter.held
may_shorten c e most online true done is =
    frame_shortens c.splitter done.frame e.splitter done.taken
may_shorten c e most online false same is = absurd cc

pub may_stay : (c e : ConnectionValue) (most online : ℕ) (done : Bool) →
    MayReply done most online c e → done ≡ false → e ≡ c
may_stay c e most online true done is = absurd cc
may_stay c e most online false same is = same
