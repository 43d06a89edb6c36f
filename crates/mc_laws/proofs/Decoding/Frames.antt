-- What one frame, or all frames of some bytes, hand out to their connection is decoded, and its
-- seat stays sound.
use Rattle.std.proofs.Common.{◌≡◌, ◌≢◌, ℕ, List, [], ◌∷◌, ◌++◌, length, refl, sym, subst, ap, ◌∙◌}
use Rattle.std.proofs.Common.{arith}
use Rattle.std.specs.Prelude.{Bool, true, false, Option, Some, None, is_some, if◌then◌else◌}
use Rattle.std.specs.List.{AllByRecursion}
use Rattle.std.specs.FinMap.{get, len}
use Rattle.mc_bytes.specs.Reading.{IsBytes}
use Rattle.mc_frame.specs.declared.fault.FrameFault.{FrameFault}
use Rattle.mc_frame.specs.Cut.{Cut}
use Rattle.mc_up.specs.declared.play_up.PlayUp.{PlayUp}
use Rattle.mc_up.specs.PlayUp.{FitsPlayUp}
use Rattle.mc_model.specs.declared.cause.Cause.TheVariants as causes
use Rattle.mc_model.specs.declared.cause.Refusal.{Refusal}
use Rattle.mc_model.specs.declared.stage.Stage.{Stage}
use Rattle.mc_model.specs.declared.stage.Stage.TheVariants as stages
use Rattle.mc_model.specs.Cutting.{cut_of}
use Rattle.mc_model.specs.Decoding.{decoder_in, decoder_of}
use Rattle.mc_model.specs.Names.{offline_uuid}
use Rattle.mc_model.specs.Packets.{Decoder, of_status}
use Rattle.mc_model.specs.Talk.{ClientRequest, nothing, greets, replies, ends, enters, acts, wrong}
use Rattle.mc_model.specs.Talk.{accepted, refused}
use Rattle.mc_model.specs.Stages.{is_closed, is_play}
use Rattle.mc_model.specs.Game.{Game}
use Rattle.mc_model.specs.Acts.{act}
use Rattle.mc_model.specs.World.{Seat, Turn}
use Rattle.mc_model.specs.Step.{acted, after, answer_login, asked_by, disconnect_for, entered}
use Rattle.mc_model.specs.Step.{heard, on_bytes, on_cut, on_fault, on_frame, on_frames, perform}
use Rattle.mc_model.specs.Step.{read_to, refusal, still}
use Rattle.mc_model.proofs.FitsBytes.{IsAnswered, bytes_joined, cut_bytes, request_answered}
use Rattle.mc_model.proofs.Maps.Lookups.{put_same}
use Rattle.mc_laws.proofs.FirstFrame.{Chooses, chooses, first_not_hand, first_of_cut, unframed_rest}
use Rattle.mc_laws.proofs.StageDecoding.{Hands, hands_done, hands_refusal, hands_same, hands_start}
use Rattle.mc_laws.proofs.StageDecoding.{hands_status, hands_welcome}
use Rattle.mc_laws.proofs.Acts.ActOn.{act_on}
use Rattle.mc_laws.proofs.Fits.Sound.{act_sound, enter_sound, welcome_of}
use Rattle.mc_laws.proofs.Walk.Handings.{heard_stage}
use Rattle.mc_laws.proofs.Walk.Moves.{Suits, suits}
use Rattle.mc_laws.proofs.Runs.Seats.{free_name, nobody_yet}
use Rattle.mc_laws.proofs.Decoding.Seats.{IsSeat, SeatDecodes, seat_close, seat_farewell, seat_hand}
use Rattle.mc_laws.proofs.Decoding.Seats.{seat_less, seat_onward, seat_still}

-- another stage is not the first
not_hand : (stage at : Stage) → stage ≡ at → at ≢ stages.Hand → stage ≢ stages.Hand
not_hand stage at is other same = other (sym is ∙ same)

-- ---- one frame

-- a client that wants to enter
login_decodes : (o : Option Decoder) (k : ℕ) (s : Seat) (name : List ℕ) (why : Option Refusal) →
    refusal s.game s.link.protocol name ≡ why → IsSeat k s → s.link.stage ≡ stages.Login →
    SeatDecodes o ⊥ k s (answer_login k s name why)
login_decodes o k s name (Some why) is seat at =
    seat_close o k s (causes.Refused why) (refused why) seat
    (subst (λ (stage : Stage). Hands o stage stages.Closed (refused why)) (sym at)
    (hands_refusal o why))
login_decodes o k s name None is seat at =
    let welcome = welcome_of s.game s.link.protocol name is in
    let nobody = nobody_yet (get s.game.players k) (seat.plays ∙ ap is_play at) in
    seat_hand o k s (entered k s name) (entered k s name).link
    (accepted (offline_uuid name) name) refl
    (enter_sound k name s.game welcome (free_name s.game s.link.protocol name is) nobody
    seat.sound)
    (λ open_. ap is_some (put_same s.game.players k _))
    (subst (λ (stage : Stage). Hands o stage stages.Play (accepted (offline_uuid name) name))
    (sym at) (hands_welcome o (offline_uuid name) name welcome.named))
    (λ same. absurd cc)

-- a player that did something
acted_decodes : (o : Option Decoder) (k : ℕ) (s : Seat) (packet : PlayUp) (after_ : Option Game) →
    FitsPlayUp packet → act s.game k packet ≡ after_ → IsSeat k s → s.link.stage ≡ stages.Play →
    SeatDecodes o ⊥ k s (acted k s packet after_)
acted_decodes o k s packet None fits did seat at = seat_farewell o k s causes.BadNumber seat
acted_decodes o k s packet (Some g) fits did seat at =
    let same = heard_stage packet s.link in
    record {
      seat = record {
        sound = act_sound k packet s.game g fits did seat.sound;
        plays = (act_on k packet s.game g did).keys k ∙ seat.plays ∙ ap is_play (sym same);
      };
      hands = subst (λ (stage : Stage). Hands o s.link.stage stage []) (sym same)
          (hands_same o s.link.stage);
      waits = λ first. absurd (not_hand (heard packet s.link).stage stages.Play (same ∙ at)
          (λ clash. absurd cc) first);
      unread = refl;
    }

-- whatever the frame comes to
performed_decodes : (o : Option Decoder) (k : ℕ) (s : Seat) (x : ClientRequest) → IsSeat k s →
    Suits s.link.stage x → IsAnswered x → Chooses o s.link.stage x →
    SeatDecodes o ⊥ k s (perform k s x)
performed_decodes o k s nothing seat fit answer choice =
    seat_less o (s.link.stage ≡ stages.Hand) ⊥ k s (still s) choice (seat_still o k s seat)
performed_decodes o k s (greets protocol stage) seat fit answer choice = record {
  seat = record {
    sound = seat.sound;
    plays = seat.plays ∙ ap is_play fit.0 ∙ sym fit.1;
  };
  hands = subst (λ (at : Stage). Hands o at stage []) (sym fit.0)
      (hands_start o stage choice.0 choice.1);
  waits = λ same. absurd (first_not_hand stage choice.0 same);
  unread = refl;
}
performed_decodes o k s (replies packet) seat fit answer choice =
    seat_hand o k s s s.link (of_status packet ∷ []) refl seat.sound (λ open_. seat.plays)
    (subst (λ (at : Stage). Hands o at at (of_status packet ∷ [])) (sym fit)
    (hands_status o packet answer))
    (not_hand s.link.stage stages.Status fit (λ clash. absurd cc))
performed_decodes o k s (ends packet) seat fit answer choice =
    seat_close o k s causes.Done (of_status packet ∷ []) seat
    (subst (λ (at : Stage). Hands o at stages.Closed (of_status packet ∷ [])) (sym fit)
    (hands_done o packet answer))
performed_decodes o k s (enters name) seat fit answer choice =
    login_decodes o k s name (refusal s.game s.link.protocol name) refl seat fit
performed_decodes o k s (acts packet) seat fit answer choice =
    acted_decodes o k s packet (act s.game k packet) answer refl seat fit
performed_decodes o k s (wrong fault) seat fit answer choice =
    seat_farewell o k s (causes.Packet fault) seat

-- a closed connection waits for nothing
closed_not_hand : (stage : Stage) → is_closed stage ≡ true → stage ≢ stages.Hand
closed_not_hand stages.Closed is same = absurd cc
closed_not_hand other is same = absurd cc

-- a frame, which is the first of its connection where that waits for it
frame_decodes : (o : Option Decoder) (k : ℕ) (s : Seat) (frame : List ℕ) → IsSeat k s →
    IsBytes frame → (s.link.stage ≡ stages.Hand → decoder_in (frame ∷ []) ≡ o) →
    SeatDecodes o ⊥ k s (on_frame k s frame)
unfolding on_frame
frame_decodes o k s frame seat bytes first = step (is_closed s.link.stage) refl
  where
    step : (b : Bool) → is_closed s.link.stage ≡ b →
        SeatDecodes o ⊥ k s (if b then still s else perform k s (asked_by s frame))
    step true is = seat_less o (s.link.stage ≡ stages.Hand) ⊥ k s (still s)
        (closed_not_hand s.link.stage is) (seat_still o k s seat)
    step false is =
        let settings = seat.sound.settings in
        let few = seat.sound.few in
        let fifty = settings.few in
        performed_decodes o k s (asked_by s frame) seat (suits s.link.stage _ _ frame)
        (request_answered s.link.stage s.game.settings.players (len s.game.players) frame
        settings.few (omega (arith, few, fifty)) bytes)
        (chooses o s.link.stage s.game.settings.players (len s.game.players) frame first)

-- a length that no frame has
fault_decodes : (o : Option Decoder) (k : ℕ) (s : Seat) (fault : Option FrameFault) → IsSeat k s →
    SeatDecodes o (s.link.stage ≡ stages.Hand) k s (on_fault k s fault)
fault_decodes o k s None seat = seat_still o k s seat
fault_decodes o k s (Some fault) seat = step (is_closed s.link.stage)
  where
    step : (b : Bool) → SeatDecodes o (s.link.stage ≡ stages.Hand) k s (if b then still s
        else disconnect_for k s (causes.Frame fault))
    step true = seat_still o k s seat
    step false = seat_less o ⊥ (s.link.stage ≡ stages.Hand) k s
        (disconnect_for k s (causes.Frame fault)) absurd
        (seat_farewell o k s (causes.Frame fault) seat)

-- ---- one after another

-- a connection waits for its first frame, and none is among these
pub record WaitsOn (stage : Stage) (frames : List (List ℕ)) : Type 0 where
  pub at : stage ≡ stages.Hand
  pub none : frames ≡ []

-- frames, which ask for the decoder where the connection waits for its first
frames_decode : (o : Option Decoder) (k : ℕ) (frames : List (List ℕ)) (s : Seat) → IsSeat k s →
    AllByRecursion IsBytes frames → (s.link.stage ≡ stages.Hand → decoder_in frames ≡ o) →
    SeatDecodes o (WaitsOn s.link.stage frames) k s (on_frames k s frames)
frames_decode o k [] s seat bytes first =
    seat_less o (s.link.stage ≡ stages.Hand) (WaitsOn s.link.stage []) k s (still s)
    (λ at. record { at = at; none = refl }) (seat_still o k s seat)
frames_decode o k (frame ∷ frames) s seat bytes first =
    let one = frame_decodes o k s frame seat bytes.0 first in
    let next = (on_frame k s frame).seat in
    let more = frames_decode o k frames next one.seat bytes.1
    (λ at. absurd (one.waits at)) in
    seat_less o (⊥ × WaitsOn next.link.stage frames) (WaitsOn s.link.stage (frame ∷ frames)) k s
    (after (on_frame k s frame) (λ (t : Seat). on_frames k t frames)) (λ both. absurd both.0)
    (seat_onward o ⊥ (WaitsOn next.link.stage frames) k s (on_frame k s frame)
    (λ (t : Seat). on_frames k t frames) one (λ waits. waits.at) more)

-- ---- bytes

-- what bytes of a connection come to
pub record BytesDecode (o : Option Decoder) (k : ℕ) (s : Seat) (bytes : List ℕ) (t : Turn) : Type 0
  where
    pub seat : IsSeat k t.seat
    pub hands : Hands o s.link.stage t.seat.link.stage t.handed
    pub rest : IsBytes t.seat.unread.rest
    -- where it still waits for its first frame, it did so before, and none of its bytes was read
    pub waits : t.seat.link.stage ≡ stages.Hand →
        (s.link.stage ≡ stages.Hand) × (t.seat.unread.rest ≡ s.unread.rest ++ bytes)

cut_decodes : (o : Option Decoder) (k : ℕ) (s : Seat) (count : ℕ) (cut : Cut) → IsSeat k s →
    AllByRecursion IsBytes cut.frames → (s.link.stage ≡ stages.Hand → decoder_in cut.frames ≡ o) →
    SeatDecodes o (WaitsOn s.link.stage cut.frames) k (read_to s cut count)
    (on_cut k s count cut)
cut_decodes o k s count cut seat frames first =
    let read = read_to s cut count in
    let framed = frames_decode o k cut.frames read
    (record { sound = seat.sound; plays = seat.plays }) frames first in
    let t = on_frames k read cut.frames in
    let ended = fault_decodes o k t.seat cut.fault framed.seat in
    seat_less o (WaitsOn s.link.stage cut.frames × (t.seat.link.stage ≡ stages.Hand))
    (WaitsOn s.link.stage cut.frames) k read
    (after t (λ (u : Seat). on_fault k u cut.fault)) (λ both. both.0)
    (seat_onward o (WaitsOn s.link.stage cut.frames) (t.seat.link.stage ≡ stages.Hand) k read t
    (λ (u : Seat). on_fault k u cut.fault) framed (λ at. at) ended)

-- bytes that came; where the connection waits for its first frame, they ask for the decoder
pub bytes_decode : (o : Option Decoder) (k : ℕ) (s : Seat) (bytes : List ℕ) → IsSeat k s →
    IsBytes s.unread.rest → IsBytes bytes →
    (s.link.stage ≡ stages.Hand → decoder_of (s.unread.rest ++ bytes) ≡ o) →
    BytesDecode o k s bytes (on_bytes k s bytes)
unfolding on_bytes
bytes_decode o k s bytes seat before came first = step (is_closed s.link.stage) refl
  where
    all : List ℕ
    all = s.unread.rest ++ bytes

    step : (b : Bool) → is_closed s.link.stage ≡ b → BytesDecode o k s bytes (if b then still s
        else on_cut k s (length all) (cut_of s.unread.before all))
    step true is = record {
      seat = seat;
      hands = hands_same o s.link.stage;
      rest = before;
      waits = λ at. absurd (closed_not_hand s.link.stage is at);
    }
    step false is =
        let c = cut_bytes s.unread.before all (bytes_joined s.unread.rest bytes before came) in
        let cut = cut_of s.unread.before all in
        let h = cut_decodes o k s (length all) cut seat c.0
        (λ at. first_of_cut s.unread.before all ∙ sym (first_of_cut 0 all) ∙ first at) in
        record {
          seat = h.seat;
          hands = h.hands;
          rest = subst (λ u. IsBytes u.rest) (sym h.unread) c.1;
          waits = λ at. let waits = h.waits at in (
            waits.at,
            ap (λ u. u.rest) h.unread
                ∙ unframed_rest s.unread.before all waits.none,
          );
        }
