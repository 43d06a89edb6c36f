-- What one frame comes to in a play.
use Rattle.std.proofs.Common.{◌≡◌, ℕ, ◌+◌, ◌<◌, ◌⊎◌, inl, inr, List, [], ◌∷◌, ◌++◌}
use Rattle.std.proofs.Common.{Option, Some}
use Rattle.std.proofs.Common.{None, Result, Ok, Err, refl, sym, subst, ap, ◌∙◌, arith, append_assoc}
use Rattle.std.proofs.lemmas.List.{append-nil}
use Rattle.mc_bytes.specs.declared.fault.FieldFault.{FieldFault}
use Rattle.mc_fields.specs.declared.packet.PacketFault.{PacketFault}
use Rattle.mc_frame.specs.declared.fault.FrameFault.{FrameFault}
use Rattle.mc_frame.specs.Cut.{Cut, Ends, IsCutAt}
use Rattle.mc_frame.proofs.Cuts.{unique}
use Rattle.mc_hello.specs.declared.login_down.LoginDown.{LoginDown}
use Rattle.mc_hello.specs.declared.login_down.LoginDown.TheVariants as login
use Rattle.mc_fields.specs.Row.{packet_read, packet_of}
use Rattle.mc_packets.specs.declared.down.Down.{Down}
use Rattle.mc_packets.specs.Down as play
use Rattle.mc_wire.specs.Count.{raised}
use Rattle.mc_wire.specs.LinkStage.{LinkStage}
use Rattle.mc_wire.specs.LinkTold.{LinkTold}
use Rattle.mc_bot.specs.declared.bot_fault.BotFault.{BotFault}
use Rattle.mc_bot.specs.declared.bot_fault.BotFault.TheVariants as faults
use Rattle.mc_bot.specs.Arriving.{Arriving, HasNext, NextAs}
use Rattle.mc_bot.specs.Asked.{bytes_of, reply_to}
use Rattle.mc_bot.specs.Played.{IsBegun, FailsAs, HasSent}
use lib.IntN.{ℤ}
use Rattle.mc_bot.specs.Playing.{Ahead, SeerRules, Bot, Course, goes, with_frame, logged_by}
use Rattle.mc_bot.specs.Playing.{farewell}
use Rattle.mc_bot.specs.Playing.{taken_by, packet_taken, all_sent}
use Rattle.mc_bot.specs.Steps.{Keeping, Standing, HasCome, HasFailed, FrameAs}
use Rattle.mc_bot.specs.Steps.{HasTakenFrame, LoginAs, CanGoOn, PacketAs, TookAs, bot_at}
use Rattle.mc_bot.proofs.Coming.{no_exchange, then_exchanged}
use Rattle.mc_bot.proofs.Growing.{Keeps, begun_all, frame_keeps, taken_keeps}

-- ---- no frame comes

-- bytes that end so are cut so
ended_cut : (count : ℕ) (bytes : List ℕ) (frames : List (List ℕ)) (rest : List ℕ)
    (fault ends_ : Option FrameFault) → Ends count bytes ends_ →
    IsCutAt (count + 0) bytes (record { frames = frames; rest = rest; fault = fault }) →
    (frames ≡ []) × (fault ≡ ends_)
ended_cut count bytes frames rest fault ends_ is cut =
    let P : ℕ → Type 0 = λ n. Ends n bytes ends_ in
    let here : IsCutAt (count + 0) bytes (record { frames = []; rest = bytes; fault = ends_ }) =
    record { front = []; parts = refl; framed = refl; ends = subst P (omega arith) is } in
    let same = unique (count + 0) bytes frames rest fault [] bytes ends_ cut here in
    (ap (λ (c : Cut). c.frames) same, ap (λ (c : Cut). c.fault) same)

next_course : {S : Type 0} (next : List ℕ → Bot S → Course S) (now : Standing S)
    (incoming : Arriving) (given : List ℕ) (stage : LinkStage) (fault : BotFault) (rest : Cut)
    (first : List ℕ) → ((frame : List ℕ) → Keeps (next frame)) →
    NextAs now.keeping.incoming incoming given stage (Err fault) →
    IsCutAt (now.keeping.incoming.splitting.before + 0)
    (now.keeping.incoming.splitting.held ++ given) rest →
    FailsAs (with_frame rest.frames (bot_at now rest.frames rest.fault stage.ended first) next)
    (first ++ []) now.keeping.incoming.patience stage.quiet_run fault
next_course next now incoming given stage faults.Link rest first keeps came cut =
    rw (append-nil first) (frame_keeps rest.frames
    (bot_at now rest.frames rest.fault stage.ended first) next keeps)
next_course next now incoming given stage faults.NoMemory rest first keeps came cut =
    rw (append-nil first) (frame_keeps rest.frames
    (bot_at now rest.frames rest.fault stage.ended first) next keeps)
next_course next now incoming given stage (faults.Frame fault) rest first keeps came cut =
    let is = ended_cut _ _ rest.frames rest.rest rest.fault (Some fault) came.0 cut in
    (rw (is.0, is.1, append-nil first) refl, came.1)
next_course next now incoming given stage (faults.Closed reason) rest first keeps came cut =
    let is = ended_cut _ _ rest.frames rest.rest rest.fault None came.1 cut in
    (rw (is.0, is.1, came.2, came.0, append-nil first) refl, came.3)
next_course next now incoming given stage (faults.Patience n) rest first keeps came cut =
    let is = ended_cut _ _ rest.frames rest.rest rest.fault None came.1 cut in
    (rw (is.0, is.1, came.2, append-nil first) refl, came.0, came.3)
next_course next now incoming given stage faults.Write rest first keeps came cut = absurd came
next_course next now incoming given stage other rest first keeps came cut = absurd came

pub next_fails : {S : Type 0} (next : List ℕ → Bot S → Course S) (now : Standing S)
    (incoming : Arriving) (told : Option LinkTold) (stage : LinkStage) (fault : BotFault) →
    ((frame : List ℕ) → Keeps (next frame)) →
    HasNext now.keeping.incoming incoming now.told told stage (Err fault) →
    HasFailed (λ bot. with_frame bot.ahead.frames bot next) now told stage fault
next_fails next now incoming told stage fault keeps h = record {
  given = h.given;
  frames = [];
  sent = [];
  left_ = now.keeping.incoming.splitting.held ++ h.given;
  exchanged = h.exchanged;
  cut = record { front = []; parts = refl; framed = refl };
  course = λ rest first is.
      next_course next now incoming h.given stage fault rest first keeps h.came is;
}

-- ---- a frame comes

pub frame_comes : {S : Type 0} (next : List ℕ → Bot S → Course S) (seen seen' : S) (old : Keeping)
    (incoming : Arriving) (payload : List ℕ) (told told1 told2 : Option LinkTold)
    (stage stage' : LinkStage) → HasNext old.incoming incoming told told1 stage (Ok payload) →
    HasTakenFrame (next payload) seen seen' old.read told1 told2 (Ok tt) → stage' ≡ stage →
    HasCome (λ bot. with_frame bot.ahead.frames bot next) goes
    (record { seen = seen; keeping = old; told = told })
    (record {
      seen = seen';
      keeping = record old { incoming = incoming; read = raised old.read };
      told = told2;
    }) × CanGoOn (record old { incoming = incoming; read = raised old.read }) stage'
frame_comes {S} next seen seen' old incoming payload told told1 told2 stage stage' h t same =
    let tf = h.came.0 in
    let counted = tf.before in (
      record {
        given = h.given ++ [];
        frames = payload ∷ [];
        sent = t.sent;
        exchanged = then_exchanged told told1 told2 [] h.given [] [] t.sent h.exchanged
            t.exchanged;
        cut = record {
          front = tf.front;
          parts = ap (λ (l : List ℕ). old.incoming.splitting.held ++ l) (append-nil h.given)
              ∙ tf.held;
          framed = (tf.front, [], sym (append-nil tf.front), tf.spelled, refl);
        };
        before = omega (arith, counted);
        patience = h.came.1;
        course = λ later fault ended first. t.came
            (record { frames = later; fault = fault; ended = ended }) old.number first;
      },
      rw same (record { goes = h.came.2; patient = h.came.3 }),
    )

pub frame_fails : {S : Type 0} (next : List ℕ → Bot S → Course S) (seen seen' : S) (old : Keeping)
    (incoming : Arriving) (payload : List ℕ) (told told1 told2 : Option LinkTold)
    (stage stage' : LinkStage) (fault : BotFault) →
    HasNext old.incoming incoming told told1 stage (Ok payload) →
    HasTakenFrame (next payload) seen seen' old.read told1 told2 (Err fault) → stage' ≡ stage →
    HasFailed (λ bot. with_frame bot.ahead.frames bot next)
    (record { seen = seen; keeping = old; told = told }) told2 stage' fault
frame_fails {S} next seen seen' old incoming payload told told1 told2 stage stage' fault h t same =
    let tf = h.came.0 in
    let run = h.came.2.run in
    let few = h.came.3 in
    let patience = h.came.1 in
    let left_run : stage'.quiet_run < old.incoming.patience =
    rw same (omega (arith, run, few, patience)) in
    record {
      given = h.given ++ [];
      frames = payload ∷ [];
      sent = t.sent;
      left_ = incoming.splitting.held;
      exchanged = then_exchanged told told1 told2 [] h.given [] [] t.sent h.exchanged t.exchanged;
      cut = record {
        front = tf.front;
        parts = ap (λ (l : List ℕ). old.incoming.splitting.held ++ l) (append-nil h.given)
            ∙ tf.held;
        framed = (tf.front, [], sym (append-nil tf.front), tf.spelled, refl);
      };
      course = λ rest first is. t.came old.incoming.patience stage'.quiet_run left_run
          (record { frames = rest.frames; fault = rest.fault; ended = stage'.ended }) old.number
          first;
    }

-- ---- what a packet comes to

-- nothing was sent, and memory ran out
pub frame_lost : {S : Type 0} (play : Bot S → Course S) (seen seen' : S) (read : ℕ) →
    Keeps play → FrameAs play seen seen' read [] (Err faults.NoMemory)
frame_lost play seen seen' read keeps patience run few ahead number first =
    rw (append-nil first) (keeps (record {
      seen = seen;
      ahead = ahead;
      read = read;
      number = number;
      sent = first;
    }))

-- it refuses the script
pub frame_bad : {S : Type 0} (rules : SeerRules S) (seen seen' : S) (read : ℕ)
    (fault : PacketFault) → FrameAs (taken_by rules (Err fault)) seen seen' read []
    (Err (faults.Packet fault read))
frame_bad rules seen seen' read fault patience run few ahead number first =
    (rw (append-nil first) refl, few)

pub frame_closes : {S : Type 0} (rules : SeerRules S) (seen seen' : S) (read : ℕ) (packet : Down)
    (reason : List ℕ) → farewell packet ≡ Some reason →
    FrameAs (taken_by rules (Ok packet)) seen seen' read [] (Err (faults.Closed reason))
frame_closes rules seen seen' read packet reason is patience run few ahead number first =
    (rw (is, append-nil first) refl, few)

pub frame_refused : {S : Type 0} (rules : SeerRules S) (seen seen' : S) (read : ℕ) (packet : Down)
    (fault : FieldFault) → farewell packet ≡ None → rules.refuses seen packet ≡ Some fault →
    FrameAs (taken_by rules (Ok packet)) seen seen' read [] (Err (faults.Body fault))
frame_refused rules seen seen' read packet fault none is patience run few ahead number first =
    (rw (none, is, append-nil first) refl, few)

pub frame_taken : {S : Type 0} (rules : SeerRules S) (seen seen' : S) (read : ℕ) (packet : Down) →
    farewell packet ≡ None → rules.refuses seen packet ≡ None → seen' ≡ rules.takes seen packet →
    FrameAs (taken_by rules (Ok packet)) seen seen' read (bytes_of (reply_to packet)) (Ok tt)
frame_taken rules seen seen' read packet none fine takes ahead number first =
    rw (none, fine, takes) refl

-- its answer was sent in part
pub frame_unsent : {S : Type 0} (rules : SeerRules S) (seen seen' : S) (read : ℕ) (packet : Down)
    (sent : List ℕ) → farewell packet ≡ None → rules.refuses seen packet ≡ None →
    IsBegun sent (bytes_of (reply_to packet)) → (patience run : ℕ) → run < patience →
    (ahead : Ahead) (number : ℤ) (first : List ℕ) → IsBegun (first ++ sent)
    (all_sent (taken_by rules (Ok packet) (record {
      seen = seen;
      ahead = ahead;
      read = read;
      number = number;
      sent = first;
    })))
frame_unsent rules seen seen' read packet sent none fine begun patience run few ahead number first =
    let part : IsBegun (first ++ sent) (first ++ bytes_of (reply_to packet)) = (
      begun.0,
      ap (λ (l : List ℕ). first ++ l) begun.1
          ∙ sym (append_assoc first sent begun.0),
    ) in
    rw (none, fine) part

-- where no fault is told, there is none
pub not_refused : (refused : Option FieldFault) → ((fault : FieldFault) → refused ≡ Some fault →
    ⊥) → refused ≡ None
not_refused None never = refl
not_refused (Some fault) never = absurd (never fault refl)

-- ---- the next packet

-- what a frame is taken as
abbrev pub taking : {S : Type 0} → SeerRules S → List ℕ → Bot S → Course S
taking rules frame = taken_by rules (packet_of frame (packet_read play.rows frame))

pub packet_next_fails : {S : Type 0} (rules : SeerRules S) (now : Standing S)
    (incoming : Arriving) (told : Option LinkTold) (stage : LinkStage) (fault : BotFault) →
    HasNext now.keeping.incoming incoming now.told told stage (Err fault) →
    HasFailed (packet_taken rules) now told stage fault
packet_next_fails rules now incoming told stage fault h =
    next_fails (taking rules) now incoming told stage fault
    (λ frame. taken_keeps rules (packet_of frame (packet_read play.rows frame))) h

pub packet_fails : {S : Type 0} (rules : SeerRules S) (seen seen' : S) (old : Keeping)
    (incoming : Arriving) (payload : List ℕ) (told told1 told2 : Option LinkTold)
    (stage stage' : LinkStage) (fault : BotFault) →
    HasNext old.incoming incoming told told1 stage (Ok payload) →
    HasTakenFrame (taking rules payload) seen seen' old.read told1 told2 (Err fault) →
    stage' ≡ stage → HasFailed (packet_taken rules)
    (record { seen = seen; keeping = old; told = told }) told2 stage' fault
packet_fails rules seen seen' old incoming payload told told1 told2 stage stage' fault h t same =
    frame_fails (taking rules) seen seen' old incoming payload told told1 told2 stage stage' fault
    h t same

pub packet_comes : {S : Type 0} (rules : SeerRules S) (seen seen' : S) (old : Keeping)
    (incoming : Arriving) (payload : List ℕ) (told told1 told2 : Option LinkTold)
    (stage : LinkStage) → HasNext old.incoming incoming told told1 stage (Ok payload) →
    HasTakenFrame (taking rules payload) seen seen' old.read told1 told2 (Ok tt) →
    HasCome (packet_taken rules) goes
    (record { seen = seen; keeping = old; told = told })
    (record {
      seen = seen';
      keeping = record old { incoming = incoming; read = raised old.read };
      told = told2;
    })
packet_comes rules seen seen' old incoming payload told told1 told2 stage h t =
    (frame_comes (taking rules) seen seen' old incoming payload told told1 told2 stage stage h t
    refl).0

-- the link can be read on
pub next_goes_on : (old : Arriving) (keeping : Keeping) (payload : List ℕ)
    (told told1 : Option LinkTold) (stage stage' : LinkStage) →
    HasNext old keeping.incoming told told1 stage (Ok payload) → stage' ≡ stage →
    CanGoOn keeping stage'
next_goes_on old keeping payload told told1 stage stage' h same =
    rw same (record { goes = h.came.2; patient = h.came.3 })

-- ---- packets as functions answer

pub closed_taken : {S : Type 0} (rules : SeerRules S) (seen : S) (packet : Down)
    (reason : List ℕ) (told : Option LinkTold) (fault : BotFault) →
    farewell packet ≡ Some reason →
    (fault ≡ faults.Closed reason) ⊎ (fault ≡ faults.NoMemory) → (read : ℕ) →
    HasTakenFrame (taken_by rules (Ok packet)) seen seen read told told (Err fault)
closed_taken rules seen packet reason told fault is (inl closed) read = rw closed (record {
  sent = [];
  exchanged = no_exchange told;
  came = frame_closes rules seen seen read packet reason is;
})
closed_taken rules seen packet reason told fault is (inr lost) read = rw lost (record {
  sent = [];
  exchanged = no_exchange told;
  came = frame_lost (taken_by rules (Ok packet)) seen seen read (taken_keeps rules (Ok packet));
})

pub in_failed : {S : Type 0} (rules : SeerRules S) (seen seen' : S) (packet : Down)
    (told : Option LinkTold) (fault : BotFault) → farewell packet ≡ None →
    TookAs rules packet seen seen' (Err fault) → (read : ℕ) →
    HasTakenFrame (taken_by rules (Ok packet)) seen seen' read told told (Err fault)
in_failed rules seen seen' packet told (faults.Body fault) none is read = record {
  sent = [];
  exchanged = no_exchange told;
  came = frame_refused rules seen seen' read packet fault none is;
}
in_failed rules seen seen' packet told faults.NoMemory none is read = record {
  sent = [];
  exchanged = no_exchange told;
  came = frame_lost (taken_by rules (Ok packet)) seen seen' read (taken_keeps rules (Ok packet));
}
in_failed rules seen seen' packet told other none is read = absurd is

pub reply_taken : {S : Type 0} (rules : SeerRules S) (seen seen' : S) (packet : Down)
    (told told' : Option LinkTold) (result : Result (Unit {0}) BotFault) →
    farewell packet ≡ None → TookAs rules packet seen seen' (Ok tt) →
    HasSent (bytes_of (reply_to packet)) told told' result → (read : ℕ) →
    HasTakenFrame (taken_by rules (Ok packet)) seen seen' read told told' result
reply_taken {S} rules seen seen' packet told told' (Ok done) none took sent read = record {
  sent = sent.sent;
  exchanged = sent.exchanged;
  came =
      let P : List ℕ → Type 0 = λ l. FrameAs (taken_by rules (Ok packet)) seen seen' read l (Ok tt)
      in
      subst P (sym sent.came) (frame_taken rules seen seen' read packet none took.0 took.1);
}
reply_taken rules seen seen' packet told told' (Err faults.Link) none took sent read = record {
  sent = sent.sent;
  exchanged = sent.exchanged;
  came = frame_unsent rules seen seen' read packet sent.sent none took.0 sent.came;
}
reply_taken rules seen seen' packet told told' (Err faults.NoMemory) none took sent read = record {
  sent = sent.sent;
  exchanged = sent.exchanged;
  came = frame_unsent rules seen seen' read packet sent.sent none took.0 sent.came;
}
reply_taken rules seen seen' packet told told' (Err other) none took sent read = absurd sent.came

pub unread_taken : {S : Type 0} (rules : SeerRules S) (read : Result Down PacketFault) (seen : S)
    (count : ℕ) (told : Option LinkTold) (fault : BotFault) → PacketAs read count (Err fault) →
    HasTakenFrame (taken_by rules read) seen seen count told told (Err fault)
unread_taken {S} rules read seen count told (faults.Packet fault n) is =
    let P : Result Down PacketFault → Type 0 = λ r.
    HasTakenFrame (taken_by rules r) seen seen count told told (Err (faults.Packet fault n)) in
    subst P (sym is.0) (rw is.1 (record {
      sent = [];
      exchanged = no_exchange told;
      came = frame_bad rules seen seen count fault;
    }))
unread_taken rules read seen count told faults.NoMemory is = record {
  sent = [];
  exchanged = no_exchange told;
  came = frame_lost (taken_by rules read) seen seen count (taken_keeps rules read);
}
unread_taken rules read seen count told other is = absurd is

pub read_taken : {S : Type 0} (rules : SeerRules S) (read : Result Down PacketFault)
    (packet : Down) (seen seen' : S) (count : ℕ) (told told' : Option LinkTold)
    (result : Result (Unit {0}) BotFault) → PacketAs read count (Ok packet) →
    ((n : ℕ) → HasTakenFrame (taken_by rules (Ok packet)) seen seen' n told told' result) →
    HasTakenFrame (taken_by rules read) seen seen' count told told' result
read_taken {S} rules read packet seen seen' count told told' result is taken =
    let P : Result Down PacketFault → Type 0 = λ r.
    HasTakenFrame (taken_by rules r) seen seen' count told told' result in
    subst P (sym is) (taken count)

-- ---- the answer to the login

pub login_as : {S : Type 0} (read : Result LoginDown PacketFault) (seen : S) (count : ℕ)
    (result : Result (Unit {0}) BotFault) → LoginAs read count result →
    FrameAs (logged_by read) seen seen count [] result
login_as (Ok (login.Success uuid name)) seen count (Ok done) came =
    λ ahead number first. rw (append-nil first) refl
login_as (Ok (login.Disconnect reason)) seen count (Err (faults.Closed said)) came =
    λ patience run few ahead number first. (rw (came, append-nil first) refl, few)
login_as (Err fault) seen count (Err (faults.Packet other n)) came =
    λ patience run few ahead number first. (rw (came.0, came.1, append-nil first) refl, few)
login_as (Ok (login.Success uuid name)) seen count (Err faults.NoMemory) came =
    λ patience run few ahead number first. rw (append-nil first) (begun_all first)
login_as (Ok (login.Disconnect reason)) seen count (Err faults.NoMemory) came =
    λ patience run few ahead number first. rw (append-nil first) (begun_all first)
login_as (Err fault) seen count (Err faults.NoMemory) came =
    λ patience run few ahead number first. rw (append-nil first) (begun_all first)
login_as read seen count result came = absurd came
