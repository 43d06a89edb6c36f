-- What one that logs in is handed.
use Rattle.std.proofs.Common.{◌≡◌, ℕ, true, false, List, [], ◌∷◌, ◌++◌, Option, Some, None}
use Rattle.std.proofs.Common.{append_assoc, length, refl, sym, subst, ap, ◌∙◌}
use Rattle.std.specs.Prelude.{Result, Ok, Err, nat_le, option_map}
use Rattle.std.specs.FinMap.{get, len}
use Rattle.std.proofs.lemmas.Bool.{and_parts}
use Rattle.mc_fields.specs.declared.packet.PacketFault.{PacketFault}
use Rattle.mc_fields.specs.Row.{packet_of, packet_read}
use Rattle.mc_frame.specs.declared.fault.FrameFault.{FrameFault}
use Rattle.mc_hello.specs.declared.login_up.LoginUp.{LoginUp}
use Rattle.mc_hello.specs.declared.login_up.LoginUp.TheVariants.{Start}
use Rattle.mc_hello.specs.LoginUp as login
use Rattle.mc_model.specs.declared.cause.Cause.{Cause}
use Rattle.mc_model.specs.declared.cause.Cause.TheVariants as causes
use Rattle.mc_model.specs.declared.cause.Refusal.{Refusal}
use Rattle.mc_model.specs.declared.stage.Stage.{Stage}
use Rattle.mc_model.specs.declared.stage.Stage.TheVariants as stages
use Rattle.mc_model.specs.declared.player.Player.{Player}
use Rattle.mc_model.specs.Cutting.{cut_of}
use Rattle.mc_model.specs.Names.{offline_uuid}
use Rattle.mc_model.specs.Packets.{Sent}
use Rattle.mc_model.specs.Run.{to}
use Rattle.mc_model.specs.Step.{Event, came, after, answer_login, entered, on_bytes, on_cut}
use Rattle.mc_model.specs.Step.{on_fault, on_frame, on_frames, perform, read_to, refusal, step}
use Rattle.mc_model.specs.Step.{still, turn}
use Rattle.mc_model.specs.Talk.{accepted, farewell, in_login, refused, request_of}
use Rattle.mc_model.specs.Stages.{is_closed, is_play}
use Rattle.mc_model.specs.Game.{Game}
use Rattle.mc_model.specs.Link.{Handing, Link, gone, hand, mark_closed}
use Rattle.mc_model.specs.World.{Seat, Turn, World, seat_of}
use Rattle.mc_model.specs.Good.{GoodWorld, in_play}
use Rattle.mc_model.specs.Headline.{Asks, LoggingIn, ends, enters_and_ends, is_let_in, is_refused}
use Rattle.mc_model.specs.Headline.{waits}
use Rattle.mc_model.proofs.Maps.Options.{none_some, some_is}
use Rattle.mc_model.proofs.Maps.Lookups.{put_same}
use Rattle.mc_laws.proofs.Deeds.Onwards.{name_of}
use Rattle.mc_laws.proofs.Walk.Handings.{hand_cases}
use Rattle.mc_laws.proofs.Walk.Moves.{Walked, fault_walks, frames_walk, walked_keeps, walked_on}
use Rattle.mc_laws.proofs.Runs.OneSteps.{OneStep, comes, departs, goes, one_step, reads, rests}
use Rattle.mc_laws.proofs.Runs.OneSteps.{takes, ticks}
use Rattle.mc_laws.proofs.Runs.Seats.{nobody_yet}
use Rattle.mc_laws.proofs.Runs.Worlds.{step_good}
use Rattle.mc_laws.proofs.Headline.Between.{PlaysOn, StaysShut, ended, gone_open, no_words, on_kept}
use Rattle.mc_laws.proofs.Headline.Between.{plays, shut_kept}
use Rattle.mc_laws.proofs.Headline.Ticks.{others_stay}

-- ---- frames

-- the first of these frames asks to play under a name
pub record FirstAsks (frames : List (List ℕ)) (name : List ℕ) : Type 0 where
  pub frame : List ℕ
  pub later : List (List ℕ)
  pub first : frames ≡ frame ∷ later
  pub starts : packet_of frame (packet_read login.rows frame) ≡ Ok (Start name)

-- how far a connection came that was logging in, and what it was handed
pub data Came (k : ℕ) (s : Seat) (frames : List (List ℕ)) (t : Turn) : Type 0 where
  here : t.seat.link.stage ≡ stages.Login → t.handed ≡ [] → Came k s frames t
  let_in : (name : List ℕ) → FirstAsks frames name →
      refusal s.game s.link.protocol name ≡ None →
      PlaysOn k name (accepted (offline_uuid name) name) t.seat t.handed → Came k s frames t
  turned_away : (name : List ℕ) (reason : Refusal) → FirstAsks frames name →
      refusal s.game s.link.protocol name ≡ Some reason →
      StaysShut (causes.Refused reason) (refused reason) t.seat t.handed → Came k s frames t
  shut : (cause : Cause) → StaysShut cause (farewell stages.Login cause) t.seat t.handed →
      Came k s frames t

-- all frames behind the first, and the length behind them
rest_of : ℕ → List (List ℕ) → Option FrameFault → Seat → Turn
rest_of k frames fault s = after (on_frames k s frames) (λ (t : Seat). on_fault k t fault)

rest_walks : (k : ℕ) (frames : List (List ℕ)) (fault : Option FrameFault) (s : Seat) →
    Walked k s (rest_of k frames fault s)
unfolding rest_of
rest_walks k frames fault s = walked_on k s (on_frames k s frames)
    (on_fault k (on_frames k s frames).seat fault) (frames_walk k s frames)
    (fault_walks k (on_frames k s frames).seat fault)

-- the first frame, and all behind it
regrouped : (k : ℕ) (s : Seat) (frame : List ℕ) (frames : List (List ℕ))
    (fault : Option FrameFault) →
    after (on_frames k s (frame ∷ frames)) (λ (t : Seat). on_fault k t fault)
    ≡ after (on_frame k s frame) (rest_of k frames fault)
unfolding rest_of
regrouped k s frame frames fault =
    let one = on_frame k s frame in
    let more = on_frames k one.seat frames in
    let last = on_fault k more.seat fault in
    ap (λ (ps : List Sent). record { seat = last.seat; handed = ps })
    (append_assoc one.handed more.handed last.handed)

-- ---- the first frame of one that logs in

module _ (k : ℕ) (s : Seat) (at : s.link.stage ≡ stages.Login) (frame : List ℕ)
    (frames : List (List ℕ)) (later : Seat → Turn)
    (walks : (t : Seat) → Walked k t (later t)) where
  -- once closed, it stays so
  stays_shut : (cause : Cause) (before : List Sent) (one : Turn) →
      StaysShut cause before one.seat one.handed →
      StaysShut cause before (after one later).seat (after one later).handed
  stays_shut cause before one h =
      walked_keeps k (λ (x : Seat) ps. StaysShut cause before x ps) (shut_kept k cause before)
      one.seat (later one.seat) one.handed (walks one.seat) h

  -- and once it plays, it plays on or is closed
  stays_on : (name : List ℕ) (before : List Sent) (one : Turn) →
      PlaysOn k name before one.seat one.handed →
      PlaysOn k name before (after one later).seat (after one later).handed
  stays_on name before one h =
      walked_keeps k (λ (x : Seat) ps. PlaysOn k name before x ps) (on_kept k name before)
      one.seat (later one.seat) one.handed (walks one.seat) h

  nothing_told : farewell stages.Login causes.Backlog ≡ []
  nothing_told = no_words stages.Login causes.Backlog refl

  -- it is closed with its last packets, or they are too much
  closes_so : (cause : Cause) (packets : List Sent) →
      ((t : Turn) → StaysShut cause packets t.seat t.handed → Came k s (frame ∷ frames) t) →
      Came k s (frame ∷ frames)
      (after (turn k s (hand (mark_closed s.link cause) packets)) later)
  closes_so cause packets came_ = hand_cases (mark_closed s.link cause) packets
      (λ (h : Handing). Came k s (frame ∷ frames) (after (turn k s h) later))
      (λ fits. came_ _ (stays_shut cause packets _
      (record { stage = refl; cause_is = refl; handed = refl })))
      (λ much. shut causes.Backlog (stays_shut causes.Backlog _ _
      (record { stage = refl; cause_is = refl; handed = sym nothing_told })))

  login_came : (name : List ℕ) → packet_of frame (packet_read login.rows frame) ≡ Ok (Start name) →
      (o : Option Refusal) → refusal s.game s.link.protocol name ≡ o →
      Came k s (frame ∷ frames) (after (answer_login k s name o) later)
  login_came name starts (Some reason) is =
      closes_so (causes.Refused reason) (refused reason)
      (λ t h. turned_away name reason (record {
        frame = frame;
        later = frames;
        first = refl;
        starts = starts;
      }) is h)
  login_came name starts None is =
      hand_cases (entered k s name).link (accepted (offline_uuid name) name)
      (λ (h : Handing). Came k s (frame ∷ frames) (after (turn k (entered k s name) h) later))
      (λ fits. let_in name (record {
        frame = frame;
        later = frames;
        first = refl;
        starts = starts;
      }) is (stays_on name (accepted (offline_uuid name) name) _
      (plays refl (ap (option_map name_of) (put_same s.game.players k _)) refl)))
      (λ much. shut causes.Backlog (stays_shut causes.Backlog _ _
      (record { stage = refl; cause_is = refl; handed = sym nothing_told })))

  frame_came : (r : Result LoginUp PacketFault) →
      packet_of frame (packet_read login.rows frame) ≡ r →
      Came k s (frame ∷ frames) (after (perform k s (in_login r)) later)
  frame_came (Ok (Start name)) is =
      login_came name is (refusal s.game s.link.protocol name) refl
  frame_came (Err fault) is = closes_so (causes.Packet fault)
      (farewell s.link.stage (causes.Packet fault))
      (λ t h. shut (causes.Packet fault)
      (subst (λ (stage : Stage). StaysShut (causes.Packet fault)
      (farewell stage (causes.Packet fault)) t.seat t.handed) at h))

  first_came : Came k s (frame ∷ frames) (after (on_frame k s frame) later)
  unfolding on_frame request_of
  first_came = subst (λ (t : Turn). Came k s (frame ∷ frames) (after t later)) (sym is)
      (frame_came (packet_of frame (packet_read login.rows frame)) refl)
    where
      open_ : is_closed s.link.stage ≡ false
      open_ = ap is_closed at

      is : on_frame k s frame
          ≡ perform k s (in_login (packet_of frame (packet_read login.rows frame)))
      is = rw open_ (ap (λ (stage : Stage). perform k s
          (request_of stage s.game.settings.players (len s.game.players) frame)) at)

-- ---- bytes of one that logs in

fault_came : (k : ℕ) (s : Seat) (fault : Option FrameFault) → s.link.stage ≡ stages.Login →
    Came k s [] (after (still s) (λ (t : Seat). on_fault k t fault))
fault_came k s None at = here at refl
fault_came k s (Some fault) at = rw (ap is_closed at)
    (hand_cases (mark_closed s.link (causes.Frame fault))
    (farewell s.link.stage (causes.Frame fault))
    (λ (h : Handing). Came k s [] (record {
      seat = (turn k s h).seat;
      handed = [] ++ (turn k s h).handed;
    }))
    (λ fits. shut (causes.Frame fault) (record {
      stage = refl;
      cause_is = refl;
      handed = ap (λ (stage : Stage). farewell stage (causes.Frame fault)) at;
    }))
    (λ much. shut causes.Backlog (record {
      stage = refl;
      cause_is = refl;
      handed = sym (no_words stages.Login causes.Backlog refl);
    })))

frames_came : (k : ℕ) (s : Seat) (frames : List (List ℕ)) (fault : Option FrameFault) →
    s.link.stage ≡ stages.Login →
    Came k s frames (after (on_frames k s frames) (λ (t : Seat). on_fault k t fault))
frames_came k s [] fault at = fault_came k s fault at
frames_came k s (frame ∷ frames) fault at =
    subst (Came k s (frame ∷ frames)) (sym (regrouped k s frame frames fault))
    (first_came k s at frame frames (rest_of k frames fault) (rest_walks k frames fault))

-- of the frames that bytes were cut into
abbrev frames_in : Seat → List ℕ → List (List ℕ)
frames_in s bytes = (cut_of s.unread.before (s.unread.rest ++ bytes)).frames

read_came : (k : ℕ) (s r : Seat) (frames : List (List ℕ)) (t : Turn) → r.game ≡ s.game →
    r.link ≡ s.link → Came k r frames t → Came k s frames t
read_came k s r frames t game link (here at none) = here at none
read_came k s r frames t game link (let_in name asks free on) = let_in name asks
    (sym (ap (λ (l : Link). refusal s.game l.protocol name) link)
    ∙ sym (ap (λ (g : Game). refusal g r.link.protocol name) game) ∙ free) on
read_came k s r frames t game link (turned_away name reason asks why h) =
    turned_away name reason asks
    (sym (ap (λ (l : Link). refusal s.game l.protocol name) link)
    ∙ sym (ap (λ (g : Game). refusal g r.link.protocol name) game) ∙ why) h
read_came k s r frames t game link (shut cause h) = shut cause h

bytes_came : (k : ℕ) (s : Seat) (bytes : List ℕ) → s.link.stage ≡ stages.Login →
    Came k s (frames_in s bytes) (on_bytes k s bytes)
unfolding on_bytes
bytes_came k s bytes at =
    let all = s.unread.rest ++ bytes in
    let cut = cut_of s.unread.before all in
    let read = read_to s cut (length all) in
    rw (ap is_closed at)
    (read_came k s read cut.frames (on_cut k s (length all) cut) refl refl
    (frames_came k read cut.frames cut.fault at))

-- ---- any event

module _ (w : World) (e : Event) (k : ℕ) (l : Link) (good : GoodWorld w)
    (later : GoodWorld (step w e).world) (there : get w.links k ≡ Some l)
    (at : l.stage ≡ stages.Login) where
  same_link : (m : Link) → get w.links k ≡ Some m → m ≡ l
  same_link m too = some_is m l (sym too ∙ there)

  stage_of : (m : Link) → get w.links k ≡ Some m → m.stage ≡ stages.Login
  stage_of m too = ap (λ (x : Link). x.stage) (same_link m too) ∙ at

  -- the player that entered
  entered_player : (m : Link) (o : Option Player) (name : List ℕ) →
      get (step w e).world.links k ≡ Some m → m.stage ≡ stages.Play → Asks w e k name →
      refusal w.game l.protocol name ≡ None →
      to k (step w e).out ≡ accepted (offline_uuid name) name →
      get (step w e).world.game.players k ≡ o → option_map name_of o ≡ Some name →
      LoggingIn w e k l
  entered_player m None name now playing asks free out is named = absurd cc
  entered_player m (Some p) name now playing asks free out is named =
      let same = some_is p.name name named in
      is_let_in name m p asks free now playing is same
      ((later.game.own k p is).uuid ∙ ap offline_uuid same) out

  asks_so : (bytes : List ℕ) (name : List ℕ) (m : Link) → e ≡ came k bytes →
      FirstAsks (frames_in (seat_of w k m) bytes) name → Asks w e k name
  asks_so bytes name m is first = record {
    bytes = bytes;
    comes = is;
    frame = first.frame;
    later = first.later;
    first = first.first;
    starts = first.starts;
  }

  login_by : OneStep k w e → LoggingIn w e k l
  unfolding step
  login_by (rests st none) = waits l (st.link ∙ there) at st.handed
  login_by (reads bytes m event_is too sits received) =
      by_came (bytes_came k (seat_of w k m) bytes (stage_of m too))
    where
      free_so : (name : List ℕ) (o : Option Refusal) →
          refusal w.game m.protocol name ≡ o → refusal w.game l.protocol name ≡ o
      free_so name o is =
          ap (λ (x : Link). refusal w.game x.protocol name) (sym (same_link m too)) ∙ is

      by_came : Came k (seat_of w k m) (frames_in (seat_of w k m) bytes)
          (on_bytes k (seat_of w k m) bytes) → LoggingIn w e k l
      by_came (here stays none) = waits _ sits.link stays (sits.handed ∙ none)
      by_came (let_in name asks free (plays playing named out)) =
          entered_player _ (get (step w e).world.game.players k) name sits.link playing
          (asks_so bytes name m event_is asks) (free_so name None free) (sits.handed ∙ out) refl
          (ap (λ (g : Game). option_map name_of (get g.players k)) sits.game ∙ named)
      by_came (let_in name asks free (ended cause shut_ of_it out)) =
          enters_and_ends name cause _ (asks_so bytes name m event_is asks)
          (free_so name None free) sits.link shut_ of_it (sits.handed ∙ out)
      by_came (turned_away name reason asks why h) =
          is_refused name reason _ (asks_so bytes name m event_is asks)
          (free_so name (Some reason) why) sits.link h.stage h.cause_is (sits.handed ∙ h.handed)
      by_came (shut cause h) =
          ends cause _ sits.link h.stage h.cause_is (sits.handed ∙ h.handed)
  login_by (departs cause m wordless too sits none) =
      (let shut_ = gone_open cause m (ap is_closed (stage_of m too)) in
      ends cause (gone cause m) sits.link shut_.0 shut_.1
      (sits.handed ∙ sym (no_words stages.Login cause wordless)))
  login_by (takes n m too sits none) = waits _ sits.link (stage_of m too) sits.handed
  login_by (comes c none) = absurd (none_some _ l (good.fresh k c.new) there)
  login_by (goes m g none) =
      (let closed = (and_parts (is_closed m.stage) (nat_le (length m.owed) 0) g.done).0 in
      let clash : false ≡ true = sym (ap is_closed (stage_of m g.there)) ∙ closed in absurd cc)
  login_by (ticks is) =
      (let nobody = nobody_yet (get w.game.players k)
      (good.plays k ∙ ap in_play there ∙ ap is_play at) in
      let stay = others_stay w k good nobody in
      waits l (ap (λ (x : Event). get (step w x).world.links k) is ∙ stay.1 ∙ there) at
      (ap (λ (x : Event). to k (step w x).out) is ∙ stay.0))

pub logging_in : (w : World) (e : Event) (k : ℕ) (l : Link) → GoodWorld w →
    get w.links k ≡ Some l → l.stage ≡ stages.Login → LoggingIn w e k l
logging_in w e k l good there at =
    login_by w e k l good (step_good w e good) there at (one_step w e k good)
