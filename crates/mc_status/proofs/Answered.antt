-- What bytes of a client come to that asks for the status: short answers, which have room, and a
-- stage in which it asks still, wants to log in, or is closed.
use Rattle.std.proofs.Common.{◌≡◌, ℕ, ◌+◌, ◌*◌, ◌≤◌, Bool, true, false, cond, List, [], ◌∷◌, ◌++◌}
use Rattle.std.proofs.Common.{length, Ok, Err, Result, refl, sym, subst, ap, ◌∙◌, append_assoc}
use Rattle.std.proofs.Common.{arith, inl, inr}
use Rattle.std.specs.Prelude.{◌⊎◌, Option, Some, None}
use Rattle.std.specs.List.{AllByRecursion}
use Rattle.std.proofs.lemmas.List.{append-nil, length-append, nil_from_length}
use Rattle.std.proofs.lemmas.List.Concat.{flat_map-append}
use Rattle.std.proofs.lemmas.Bool.{le-leb}
use Rattle.std.proofs.lemmas.Bool.Decides.{nat_tests}
use Rattle.std.specs.Ordering.{nat_cmp}
use Rattle.std.specs.FinMap.{get-empty, len-empty}
use lib.IntN.{ℤ}
use Rattle.mc_bytes.specs.Numbers.{number_spelling}
use Rattle.mc_bytes.specs.Reading.{IsBytes}
use Rattle.mc_fields.specs.declared.packet.PacketFault.{PacketFault}
use Rattle.mc_fields.specs.RowLaws.{fits_spelled, spells_bounded}
use Rattle.mc_fields.specs.Varint.{varint_spelling, groups_spelling}
use Rattle.mc_frame.specs.declared.fault.FrameFault.{FrameFault}
use Rattle.mc_frame.specs.Cut.{Ends}
use Rattle.mc_frame.specs.Frame.{IsPayload, frame_spelling}
use Rattle.mc_frame.specs.FrameLaws.{frame_bounded, frame_spelled}
use Rattle.mc_frame.specs.Kept.{outbox_max}
use Rattle.mc_frame.proofs.Cuts.{ends_once}
use Rattle.mc_frame.proofs.Stops.{nothing_part}
use Rattle.mc_hello.specs.declared.handshake.Hand.{Hand}
use Rattle.mc_hello.specs.declared.handshake.Hand.TheVariants.{Handshake}
use Rattle.mc_hello.specs.declared.status_up.StatusUp.{StatusUp}
use Rattle.mc_hello.specs.declared.status_up.StatusUp.TheVariants.{Request, Ping}
use Rattle.mc_hello.specs.declared.status_down.StatusDown.TheVariants.{Response, Pong}
use Rattle.mc_hello.specs.StatusDown as down
use Rattle.mc_model.specs.declared.cause.Cause.{Cause}
use Rattle.mc_model.specs.declared.cause.Cause.TheVariants as causes
use Rattle.mc_model.specs.declared.player.Player.{Player}
use Rattle.mc_model.specs.declared.stage.Stage.{Stage}
use Rattle.mc_model.specs.declared.stage.Stage.TheVariants as stages
use Rattle.mc_model.specs.Cutting.{cut_of}
use Rattle.mc_model.specs.Game.{Game, new_game}
use Rattle.mc_model.specs.Leaving.{leave, left_by}
use Rattle.mc_model.specs.Link.{Link, hand, mark_closed}
use Rattle.mc_model.specs.Packets.{Sent, bytes_of, frame_of, of_status}
use Rattle.mc_model.specs.Stages.{is_closed}
use Rattle.mc_model.specs.Step.{after, on_bytes, on_fault, on_frame, on_frames, perform, still}
use Rattle.mc_model.specs.Step.{turn}
use Rattle.mc_model.specs.Talk.{ClientRequest, nothing, greets, replies, ends, enters, acts, wrong}
use Rattle.mc_model.specs.Talk.{farewell, in_hand, in_status, request_of, wanted}
use Rattle.mc_model.specs.Texts.{status_json}
use Rattle.mc_model.specs.World.{Seat, Turn, Unread}
use Rattle.mc_model.proofs.CutFacts.{cut_of_bytes}
use Rattle.mc_model.proofs.FitsBytes.{bytes_joined}
use Rattle.mc_model.proofs.FitsTalk.{response_clear}
use Rattle.mc_model.proofs.FitsText.{IsShort, status_short}
use Rattle.mc_model.proofs.Maps.Options.{some_is}
use Rattle.mc_laws.proofs.Walk.Moves.{Suits, suits}
use Rattle.mc_laws.proofs.Cutting.Cuts.{AreFew, frames_in_piece}
use Rattle.mc_laws.proofs.Cutting.Reads.{bytes_closed, bytes_open, done, fault_closed}
use Rattle.mc_laws.proofs.Cutting.Reads.{frames_closed, left_of}
use Rattle.mc_laws.proofs.Apart.BadFrames.{elsewhere}
use Rattle.mc_status.specs.StatusText.{lone_settings}
use Rattle.mc_status.specs.Playing.{Asks, AsksAt, IsSmall}

-- ---- stages

-- it has said that it wants the status, or is closed
abbrev pub IsPast : Stage → Type 0
IsPast stages.Status = Unit {0}
IsPast stages.Closed = Unit {0}
IsPast other = ⊥

-- what may come at a stage: one thing as long as it has not said what it wants, and nothing once it
-- wants to log in
abbrev pub Goes : {A : Type 0} → Stage → List A → Type 0
Goes stages.Hand xs = length xs ≤ 1
Goes stages.Status xs = Unit {0}
Goes stages.Closed xs = Unit {0}
Goes other xs = length xs ≤ 0

past_goes : {A : Type 0} (stage : Stage) (xs : List A) → IsPast stage → Goes stage xs
past_goes stages.Status xs past = tt
past_goes stages.Closed xs past = tt
past_goes other xs past = absurd past

none_goes : {A : Type 0} (stage : Stage) (xs : List A) → length xs ≤ 0 → Goes stage xs
none_goes stages.Hand xs none = omega (arith, none)
none_goes stages.Status xs none = tt
none_goes stages.Closed xs none = tt
none_goes other xs none = none

pub goes_on : {A : Type 0} (stage later : Stage) (x : A) (xs : List A) → Goes stage (x ∷ xs) →
    (IsPast stage → IsPast later) → Goes later xs
goes_on stages.Hand later x xs goes past = none_goes later xs (omega (arith, goes))
goes_on stages.Status later x xs goes past = past_goes later xs (past tt)
goes_on stages.Closed later x xs goes past = past_goes later xs (past tt)
goes_on other later x xs goes past = absurd (omega (arith, goes))

-- ---- what a frame comes to

-- it is answered by a small packet, or wants the status or to log in
abbrev IsWanted : Stage → Type 0
IsWanted stages.Status = Unit {0}
IsWanted stages.Login = Unit {0}
IsWanted other = ⊥

abbrev IsSaid : ClientRequest → Type 0
IsSaid (greets protocol stage) = IsWanted stage
IsSaid (replies packet) = IsSmall (of_status packet)
IsSaid (ends packet) = IsSmall (of_status packet)
IsSaid (enters name) = ⊥
IsSaid (acts packet) = ⊥
IsSaid other = Unit {0}

small_frame : (payload : List ℕ) → IsPayload payload → length payload ≤ 900 →
    length (frame_spelling payload) ≤ 1000
small_frame payload fits few =
    let most = frame_bounded payload (frame_spelling payload) (frame_spelled payload fits) in
    omega (arith, most, few)

response_small : (json : List ℕ) → IsShort 200 json → IsSmall (of_status (Response json))
unfolding frame_of
response_small json s =
    let clear = response_clear json s in
    let few = spells_bounded (down.entry_of (Response json))
    (down.spelling_of (Response json)) (fits_spelled (down.entry_of (Response json)) clear.0) in
    record {
      payload = down.spelling_of (Response json);
      spelled = refl;
      fits = clear.1;
      few = small_frame (down.spelling_of (Response json)) clear.1 (omega (arith, few, s.few));
    }

pong_length : (number : ℤ) → length (down.spelling_of (Pong number)) ≡ 9
unfolding varint_spelling groups_spelling number_spelling
pong_length number = refl

pong_small : (number : ℤ) → IsSmall (of_status (Pong number))
unfolding frame_of
pong_small number =
    let len = pong_length number in
    let fits : IsPayload (down.spelling_of (Pong number)) =
    record { some = omega (arith, len); counted = omega (arith, len) } in
    record {
      payload = down.spelling_of (Pong number);
      spelled = refl;
      fits = fits;
      few = small_frame (down.spelling_of (Pong number)) fits (omega (arith, len));
    }

wanted_fits : (next : ℤ) → IsWanted (wanted next)
wanted_fits next = grind (arith, nat_tests)

hand_said : (r : Result Hand PacketFault) → IsSaid (in_hand r)
hand_said (Ok (Handshake protocol address port next)) = wanted_fits next
hand_said (Err fault) = tt

status_said : (most : ℕ) (r : Result StatusUp PacketFault) → most ≤ 50 →
    IsSaid (in_status most 0 r)
status_said most (Ok Request) few =
    response_small (status_json most 0) (status_short most 0 few (omega arith))
status_said most (Ok (Ping number)) few = pong_small number
status_said most (Err fault) few = tt

abbrev IsAsking : Stage → Type 0
IsAsking stages.Hand = Unit {0}
IsAsking stages.Status = Unit {0}
IsAsking other = ⊥

said : (stage : Stage) (most : ℕ) (frame : List ℕ) → most ≤ 50 → IsAsking stage →
    IsSaid (request_of stage most 0 frame)
unfolding request_of
said other most frame few asks = grind (arith, nat_tests, hand_said, status_said)

no_farewell : (stage : Stage) (cause : Cause) → IsAsking stage → farewell stage cause ≡ []
unfolding farewell
no_farewell other cause asks = grind (arith, nat_tests)

-- ---- turns

-- a turn of a seat, with so many answers at most
pub record Answered (most n : ℕ) (s : Seat) (t : Turn) : Type 0 where
  pub game : t.seat.game ≡ new_game (lone_settings most) 0
  pub stage : AsksAt t.seat.link.stage t.seat.link.cause
  pub past : IsPast s.link.stage → IsPast t.seat.link.stage
  pub owed : t.seat.link.owed ≡ s.link.owed ++ bytes_of t.handed
  pub small : AllByRecursion IsSmall t.handed
  pub few : length (bytes_of t.handed) ≤ 1000 * n

still_answered : (most n : ℕ) (s : Seat) → s.game ≡ new_game (lone_settings most) 0 →
    AsksAt s.link.stage s.link.cause → Answered most n s (still s)
still_answered most n s game stage = record {
  game = game;
  stage = stage;
  past = λ past. past;
  owed = sym (append-nil s.link.owed);
  small = tt;
  few = omega arith;
}

all_both : (ps qs : List Sent) → AllByRecursion IsSmall ps → AllByRecursion IsSmall qs →
    AllByRecursion IsSmall (ps ++ qs)
all_both [] qs a b = b
all_both (p ∷ ps) qs a b = (a.0, all_both ps qs a.1 b)

answered_after : (most m n : ℕ) (s : Seat) (t : Turn) (f : Seat → Turn) → Answered most m s t →
    Answered most n t.seat (f t.seat) → Answered most (m + n) s (after t f)
answered_after most m n s t f a b =
    let u = f t.seat in
    let both = flat_map-append frame_of t.handed u.handed in
    let first = a.few in
    let second = b.few in
    let sum = ap length both in
    record {
      game = b.game;
      stage = b.stage;
      past = λ past. b.past (a.past past);
      owed = b.owed ∙ ap (λ (o : List ℕ). o ++ bytes_of u.handed) a.owed
          ∙ append_assoc s.link.owed (bytes_of t.handed) (bytes_of u.handed)
          ∙ ap (λ (o : List ℕ). s.link.owed ++ o) (sym both);
      small = all_both t.handed u.handed a.small b.small;
      few = omega (
        arith,
        first,
        second,
        sum,
        length-append (bytes_of t.handed) (bytes_of u.handed),
      );
    }

nobody_leaves : (most : ℕ) (stage : Stage) →
    left_by 0 stage (new_game (lone_settings most) 0) ≡ new_game (lone_settings most) 0
unfolding leave
nobody_leaves most stage = step (is_closed stage)
  where
    step : (b : Bool) → cond b (leave 0 (new_game (lone_settings most) 0))
        (new_game (lone_settings most) 0) ≡ new_game (lone_settings most) 0
    step true = rw (get-empty nat_cmp 0) refl
    step false = refl

abbrev seat_in : ℕ → Link → Unread → Seat
seat_in most l u = record { game = new_game (lone_settings most) 0; link = l; unread = u }

-- packets are handed to it that have room
hand_answered : (most n : ℕ) (l m : Link) (u : Unread) (packets : List Sent) → m.owed ≡ l.owed →
    AsksAt m.stage m.cause → (IsPast l.stage → IsPast m.stage) →
    AllByRecursion IsSmall packets → length (bytes_of packets) ≤ 1000 * n →
    length l.owed + 1000 * n ≤ outbox_max →
    Answered most n (seat_in most l u) (turn 0 (seat_in most l u) (hand m packets))
unfolding hand
hand_answered most n l m u packets owed stage past small few room =
    let len = ap length owed in
    rw (le-leb (length m.owed + length (bytes_of packets)) outbox_max
    (omega (arith, len, few, room))) (record {
      game = nobody_leaves most m.stage;
      stage = stage;
      past = past;
      owed = ap (λ (o : List ℕ). o ++ bytes_of packets) owed;
      small = small;
      few = few;
    })

module _ (most : ℕ) (some : most ≤ 50) (l : Link) (u : Unread) where
  closing : (cause : Cause) (n : ℕ) → IsAsking l.stage → ¬ (cause ≡ causes.Backlog) →
      length l.owed + 1000 * n ≤ outbox_max → Answered most n (seat_in most l u)
      (turn 0 (seat_in most l u) (hand (mark_closed l cause) (farewell l.stage cause)))
  closing cause n asks other room =
      subst (λ (ps : List Sent). Answered most n (seat_in most l u)
      (turn 0 (seat_in most l u) (hand (mark_closed l cause) ps)))
      (sym (no_farewell l.stage cause asks))
      (hand_answered most n l (mark_closed l cause) u [] refl
      (λ same. other (some_is cause causes.Backlog same)) (λ past. tt) tt (omega arith) room)

  one_few : (p : Sent) → IsSmall p → length (bytes_of (p ∷ [])) ≤ 1000 * 1
  one_few p small =
      let few = small.few in
      let all = ap length (append-nil (frame_of p)) in
      omega (arith, few, all)

  performed : (x : ClientRequest) (frame : List ℕ) → IsAsking l.stage →
      AsksAt l.stage l.cause → x ≡ request_of l.stage most 0 frame → IsSaid x →
      length l.owed + 1000 * 1 ≤ outbox_max →
      Answered most 1 (seat_in most l u) (perform 0 (seat_in most l u) x)
  performed nothing frame asks stage is fits room =
      still_answered most 1 (seat_in most l u) refl stage
  performed (greets protocol to) frame asks stage is fits room =
      let first = (subst (λ (r : ClientRequest). Suits l.stage r) (sym is)
      (suits l.stage most 0 frame)).0 in
      record {
        game = refl;
        stage = greeted to (subst (λ (at : Stage). AsksAt at l.cause) first stage) fits;
        past = λ past. absurd (subst IsPast first past);
        owed = sym (append-nil l.owed);
        small = tt;
        few = omega arith;
      }
    where
      greeted : (to : Stage) → l.cause ≡ None → IsWanted to → AsksAt to l.cause
      greeted stages.Status none fits = none
      greeted stages.Login none fits = none
      greeted other none fits = absurd fits
  performed (replies packet) frame asks stage is fits room =
      hand_answered most 1 l l u (of_status packet ∷ []) refl stage (λ past. past) (fits, tt)
      (one_few (of_status packet) fits) room
  performed (ends packet) frame asks stage is fits room =
      hand_answered most 1 l (mark_closed l causes.Done) u (of_status packet ∷ []) refl
      (λ same. absurd (let e = same in cc)) (λ past. tt) (fits, tt)
      (one_few (of_status packet) fits) room
  performed (enters name) frame asks stage is fits room = absurd fits
  performed (acts packet) frame asks stage is fits room = absurd fits
  performed (wrong fault) frame asks stage is fits room =
      closing (causes.Packet fault) 1 asks (λ same. absurd (let e = same in cc)) room

  -- a frame
  frame_in : (frame : List ℕ) → IsAsking l.stage → is_closed l.stage ≡ false →
      AsksAt l.stage l.cause → length l.owed + 1000 * 1 ≤ outbox_max →
      Answered most 1 (seat_in most l u) (on_frame 0 (seat_in most l u) frame)
  unfolding on_frame
  frame_in frame asks open_ stage room =
      rw (open_, len-empty nat_cmp Player)
      (performed (request_of l.stage most 0 frame) frame asks stage refl
      (said l.stage most frame some asks) room)

  -- a length that no frame has
  fault_in : (fault : FrameFault) → IsAsking l.stage → is_closed l.stage ≡ false →
      length l.owed + 1000 * 0 ≤ outbox_max →
      Answered most 0 (seat_in most l u) (on_fault 0 (seat_in most l u) (Some fault))
  fault_in fault asks open_ room = rw open_ (closing (causes.Frame fault) 0 asks
      (λ same. absurd (let e = same in cc)) room)

-- ---- seats that ask

-- what may come at a stage comes to an open one that asks, or to one that is closed
asks_or_closed : {A : Type 0} (stage : Stage) (cause : Option Cause) (x : A) (xs : List A) →
    AsksAt stage cause → Goes stage (x ∷ xs) →
    (IsAsking stage × (is_closed stage ≡ false)) ⊎ (is_closed stage ≡ true)
asks_or_closed stages.Hand cause x xs asks goes = inl (tt, refl)
asks_or_closed stages.Status cause x xs asks goes = inl (tt, refl)
asks_or_closed stages.Closed cause x xs asks goes = inr refl
asks_or_closed stages.Login cause x xs asks goes = absurd (omega (arith, goes))
asks_or_closed other cause x xs asks goes = absurd asks

module _ (most : ℕ) (some : most ≤ 50) where
  -- with the game as it is
  at_game : (n : ℕ) (s : Seat) (f : Seat → Turn) → s.game ≡ new_game (lone_settings most) 0 →
      Answered most n (seat_in most s.link s.unread) (f (seat_in most s.link s.unread)) →
      Answered most n s (f s)
  at_game n s f game a = subst (λ (g : Game).
      Answered most n (record { game = g; link = s.link; unread = s.unread })
      (f (record { game = g; link = s.link; unread = s.unread }))) (sym game) a

  frames_answered : (frames : List (List ℕ)) (s : Seat) →
      s.game ≡ new_game (lone_settings most) 0 → AsksAt s.link.stage s.link.cause →
      Goes s.link.stage frames → length s.link.owed + 1000 * length frames ≤ outbox_max →
      Answered most (length frames) s (on_frames 0 s frames)
  frames_answered [] s game stage goes room = still_answered most 0 s game stage
  frames_answered (frame ∷ frames) s game stage goes room =
      elim (asks_or_closed s.link.stage s.link.cause frame frames stage goes) [
        | inl open_ ↦
            let first = on_frame 0 s frame in
            let a = at_game 1 s (λ (t : Seat). on_frame 0 t frame) game
            (frame_in most some s.link s.unread frame open_.0 open_.1 stage
            (omega (arith, room))) in
            let owed = ap length a.owed in
            let few = a.few in
            let all : 1 + length frames ≡ length (frame ∷ frames) = omega arith in
            subst (λ (n : ℕ). Answered most n s (on_frames 0 s (frame ∷ frames))) all
            (answered_after most 1 (length frames) s first (λ (t : Seat). on_frames 0 t frames) a
            (frames_answered frames first.seat a.game a.stage
            (goes_on s.link.stage first.seat.link.stage frame frames goes a.past)
            (omega (
              arith,
              room,
              owed,
              few,
              length-append s.link.owed (bytes_of first.handed),
            ))))
        | inr closed ↦ subst (Answered most (length (frame ∷ frames)) s)
            (sym (frames_closed 0 s (frame ∷ frames) closed))
            (still_answered most (length (frame ∷ frames)) s game stage)
      ]

  fault_answered : (s : Seat) (fault : Option FrameFault) →
      s.game ≡ new_game (lone_settings most) 0 → AsksAt s.link.stage s.link.cause →
      (fault ≡ None) ⊎ (IsAsking s.link.stage ⊎ (is_closed s.link.stage ≡ true)) →
      length s.link.owed ≤ outbox_max → Answered most 0 s (on_fault 0 s fault)
  fault_answered s None game stage goes room = still_answered most 0 s game stage
  fault_answered s (Some fault) game stage (inl none) room = absurd (let e = none in cc)
  fault_answered s (Some fault) game stage (inr (inr closed)) room =
      subst (Answered most 0 s) (sym (fault_closed 0 s (Some fault) closed))
      (still_answered most 0 s game stage)
  fault_answered s (Some fault) game stage (inr (inl asks)) room =
      at_game 0 s (λ (t : Seat). on_fault 0 t (Some fault)) game
      (fault_in most some s.link s.unread fault asks (open_of s.link.stage asks)
      (omega (arith, room)))
    where
      open_of : (stage : Stage) → IsAsking stage → is_closed stage ≡ false
      open_of stages.Hand asks = refl
      open_of stages.Status asks = refl
      open_of other asks = absurd asks

-- ---- bytes

past_asks : (stage : Stage) → IsPast stage → IsAsking stage ⊎ (is_closed stage ≡ true)
past_asks stages.Status past = inl tt
past_asks stages.Closed past = inr refl
past_asks other past = absurd past

-- no fault is met behind a frame that says what is wanted
fault_goes : (stage later : Stage) (count : ℕ) (frames : List (List ℕ)) (rest : List ℕ) (b : ℕ)
    (bytes : List ℕ) (fault : Option FrameFault) → Goes stage (b ∷ bytes) →
    (IsPast stage → IsPast later) → (frames ≡ [] → later ≡ stage) →
    AreFew frames rest (b ∷ bytes) → Ends count rest fault →
    (fault ≡ None) ⊎ (IsAsking later ⊎ (is_closed later ≡ true))
fault_goes stages.Status later count frames rest b bytes fault goes past same few stops =
    inr (past_asks later (past tt))
fault_goes stages.Closed later count frames rest b bytes fault goes past same few stops =
    inr (past_asks later (past tt))
fault_goes stages.Hand later count [] rest b bytes fault goes past same few stops =
    inr (inl (subst IsAsking (sym (same refl)) tt))
fault_goes stages.Hand later count (f ∷ fs) rest b bytes fault goes past same (inl none) stops =
    absurd (let e = none in cc)
fault_goes stages.Hand later count (f ∷ fs) rest b bytes fault goes past same (inr few) stops =
    let nothing_left = nil_from_length rest (omega (arith, few, goes)) in
    inl (sym (ends_once count [] None fault nothing_part
    (subst (λ (t : List ℕ). Ends count t fault) nothing_left stops)))
fault_goes other later count frames rest b bytes fault goes past same few stops =
    absurd (omega (arith, goes))

frames_go : (stage : Stage) (frames : List (List ℕ)) (rest bytes : List ℕ) → Goes stage bytes →
    AreFew frames rest bytes → Goes stage frames × (length frames ≤ length bytes)
frames_go stage frames rest bytes goes few =
    let less = fewer few in (at stage goes less, less)
  where
    fewer : AreFew frames rest bytes → length frames ≤ length bytes
    fewer (inl none) = let len = ap length none in omega (arith, len)
    fewer (inr some) = omega (arith, some)

    at : (stage : Stage) → Goes stage bytes → length frames ≤ length bytes → Goes stage frames
    at stages.Hand goes less = omega (arith, goes, less)
    at stages.Status goes less = tt
    at stages.Closed goes less = tt
    at other goes less = omega (arith, goes, less)

-- with more answers at most, and whatever is not read
answered_more : (most m n : ℕ) (s : Seat) (t : Turn) (u : Unread) → m ≤ n →
    Answered most m s t → Answered most n s (elsewhere u t)
answered_more most m n s t u le a = let few = a.few in record {
  game = a.game;
  stage = a.stage;
  past = a.past;
  owed = a.owed;
  small = a.small;
  few = omega (arith, few, le);
}

module _ (most : ℕ) (some : most ≤ 50) (s : Seat) (b : ℕ) (bytes : List ℕ) (asks : Asks most s)
    (goes : Goes s.link.stage (b ∷ bytes)) (few : length (b ∷ bytes) ≤ 65536)
    (come : IsBytes (b ∷ bytes)) where
  pub bytes_answered : Answered most (length (b ∷ bytes)) s (on_bytes 0 s (b ∷ bytes))
  bytes_answered = step (is_closed s.link.stage) refl
    where
      none_owed : length s.link.owed ≡ 0
      none_owed = ap length asks.owed

      step : (t : Bool) → is_closed s.link.stage ≡ t →
          Answered most (length (b ∷ bytes)) s (on_bytes 0 s (b ∷ bytes))
      step true t = subst (Answered most (length (b ∷ bytes)) s)
          (sym (bytes_closed 0 s (b ∷ bytes) t))
          (still_answered most (length (b ∷ bytes)) s asks.game asks.stage)
      step false t =
          let count = s.unread.before in
          let all : List ℕ = s.unread.rest ++ (b ∷ bytes) in
          let cut = cut_of count all in
          let fits = bytes_joined s.unread.rest (b ∷ bytes) asks.waits.are come in
          let c = cut_of_bytes count all fits in
          let are = frames_in_piece count s.unread.rest (b ∷ bytes) (asks.waits.part t) fits in
          let go = frames_go s.link.stage cut.frames cut.rest (b ∷ bytes) goes are in
          let less = go.1 in
          let first = on_frames 0 s cut.frames in
          let a = frames_answered most some cut.frames s asks.game asks.stage go.0
          (omega (arith, none_owed, less, few)) in
          let owed = ap length a.owed in
          let answers = a.few in
          let f = fault_answered most some first.seat cut.fault a.game a.stage
          (fault_goes s.link.stage first.seat.link.stage (count + length c.front) cut.frames
          cut.rest b bytes cut.fault goes a.past
          (λ none. ap (λ (fs : List (List ℕ)). (on_frames 0 s fs).seat.link.stage) none) are
          c.ends)
          (omega (
            arith,
            none_owed,
            owed,
            answers,
            less,
            few,
            length-append s.link.owed (bytes_of first.handed),
          )) in
          subst (Answered most (length (b ∷ bytes)) s) (sym (bytes_open 0 s (b ∷ bytes) t))
          (answered_more most (length cut.frames + 0) (length (b ∷ bytes)) s
          (done 0 s cut.frames cut.fault) (left_of s (b ∷ bytes)) (omega (arith, less))
          (answered_after most (length cut.frames) 0 s first
          (λ (v : Seat). on_fault 0 v cut.fault) a f))
