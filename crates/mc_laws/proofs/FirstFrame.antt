-- The first frame of a client's bytes: it is the same however many bytes follow, and what it makes
-- of a connection.
use Rattle.std.proofs.Common.{◌≡◌, ◌≢◌, ℕ, List, [], ◌∷◌, ◌++◌, length, refl, sym, ap, ◌∙◌}
use Rattle.std.proofs.Common.{append_assoc}
use Rattle.std.specs.Prelude.{◌==◌, true, false, Option, Some, None, Result, Ok, Err, if◌then◌else◌}
use lib.IntN.{ℤ, pos, negsuc}
use Rattle.mc_bytes.specs.Reading.{Field, IsBytes}
use Rattle.mc_bytes.specs.Format.{Anything}
use Rattle.mc_fields.specs.declared.packet.PacketFault.{PacketFault}
use Rattle.mc_fields.specs.Row as rows
use Rattle.mc_frame.specs.Frame.{frame_read}
use Rattle.mc_frame.specs.FrameLaws.{frame_found, frame_only}
use Rattle.mc_frame.specs.Cut.{Cut}
use Rattle.mc_hello.specs.declared.handshake.Hand.{Hand}
use Rattle.mc_hello.specs.declared.handshake.Hand.TheVariants.{Handshake}
use Rattle.mc_hello.specs.declared.status_up.StatusUp.{StatusUp}
use Rattle.mc_hello.specs.declared.status_up.StatusUp.TheVariants.{Request, Ping}
use Rattle.mc_hello.specs.declared.login_up.LoginUp.{LoginUp}
use Rattle.mc_hello.specs.declared.login_up.LoginUp.TheVariants.{Start}
use Rattle.mc_hello.specs.Hand as hand
use Rattle.mc_hello.specs.StatusUp as status
use Rattle.mc_hello.specs.LoginUp as login
use Rattle.mc_up.specs.declared.play_up.PlayUp.{PlayUp}
use Rattle.mc_up.specs.PlayUp as play
use Rattle.mc_model.specs.declared.stage.Stage.{Stage}
use Rattle.mc_model.specs.declared.stage.Stage.TheVariants as stages
use Rattle.mc_model.specs.Cutting.{cut_by, cut_from, cut_of}
use Rattle.mc_model.specs.Packets.{Decoder}
use Rattle.mc_model.specs.Talk.{ClientRequest, nothing, greets, replies, ends, enters, acts, wrong}
use Rattle.mc_model.specs.Talk.{wanted, in_hand, in_status, in_login, in_play, request_of}
use Rattle.mc_model.specs.Decoding.{decoder_for, decoder_by, decoder_in, decoder_of}

-- ---- of bytes

-- by what is read at the front
abbrev pub decoder_at : Field (List ℕ) → Option Decoder
decoder_at (Ok x) = decoder_in (x.0 ∷ [])
decoder_at (Err stop) = None

-- which stands first in the cut, wherever it is cut from
pub first_of_cut : (count : ℕ) (bytes : List ℕ) →
    decoder_in (cut_of count bytes).frames ≡ decoder_at (frame_read bytes)
unfolding cut_of
first_of_cut count bytes = step (frame_read bytes) (λ n after. cut_from (length bytes) n after)
  where
    step : (read : Field (List ℕ)) (later : ℕ → List ℕ → Cut) →
        decoder_in (cut_by count bytes read later).frames ≡ decoder_at read
    step (Ok x) later = refl
    step (Err stop) later = refl

-- bytes that hold no whole frame are all left
pub unframed_rest : (count : ℕ) (bytes : List ℕ) → (cut_of count bytes).frames ≡ [] →
    (cut_of count bytes).rest ≡ bytes
unfolding cut_of
unframed_rest count bytes = step (frame_read bytes) (λ n after. cut_from (length bytes) n after)
  where
    step : (read : Field (List ℕ)) (later : ℕ → List ℕ → Cut) →
        (cut_by count bytes read later).frames ≡ []
        → (cut_by count bytes read later).rest ≡ bytes
    step (Ok x) later none = absurd cc
    step (Err stop) later none = refl

-- more bytes behind a handshake ask for nothing else
pub decoder_more : (bytes more : List ℕ) (decoder : Decoder) → IsBytes bytes →
    decoder_of bytes ≡ Some decoder → decoder_of (bytes ++ more) ≡ Some decoder
decoder_more bytes more decoder fits is =
    first_of_cut 0 (bytes ++ more) ∙ step (frame_read bytes) refl (sym (first_of_cut 0 bytes) ∙ is)
  where
    step : (read : Field (List ℕ)) → frame_read bytes ≡ read → decoder_at read ≡ Some decoder →
        decoder_at (frame_read (bytes ++ more)) ≡ Some decoder
    step (Ok x) reads asks =
        let f = frame_found bytes x fits reads in
        let longer : bytes ++ more ≡ f.front ++ (x.1 ++ more) =
        ap (λ (t : List ℕ). t ++ more) f.parts ∙ append_assoc f.front x.1 more in
        ap (λ (t : List ℕ). decoder_at (frame_read t)) longer
        ∙ ap decoder_at (frame_only Anything x.0 f.front (x.1 ++ more) tt f.spelled)
        ∙ asks
    step (Err stop) reads asks = absurd cc

-- ---- of connections

-- a stage that a client can want
abbrev pub IsFirst : Stage → Type 0
IsFirst stages.Hand = ⊥
IsFirst stages.Status = Unit {0}
IsFirst stages.Login = Unit {0}
IsFirst stages.Asked = ⊥
IsFirst stages.Play = ⊥
IsFirst stages.Closed = ⊥

wanted_first : (n : ℤ) → IsFirst (wanted n)
wanted_first (pos n) = elim (n == 1) as
    (λ b. IsFirst (if b then stages.Status else stages.Login)) [ true ↦ tt | false ↦ tt ]
wanted_first (negsuc n) = tt

pub first_not_hand : (stage : Stage) → IsFirst stage → stage ≢ stages.Hand
first_not_hand stages.Hand f same = f
first_not_hand stages.Status f same = absurd cc
first_not_hand stages.Login f same = absurd cc
first_not_hand stages.Asked f same = f
first_not_hand stages.Play f same = f
first_not_hand stages.Closed f same = f

-- what a frame comes to is the client's first word, by which it is decoded then, or it is no first
-- frame
abbrev pub Chooses : Option Decoder → Stage → ClientRequest → Type 0
Chooses o at nothing = at ≢ stages.Hand
Chooses o at (greets protocol stage) = IsFirst stage × (o ≡ Some (decoder_for stage))
Chooses o at (replies packet) = Unit {0}
Chooses o at (ends packet) = Unit {0}
Chooses o at (enters name) = Unit {0}
Chooses o at (acts packet) = Unit {0}
Chooses o at (wrong fault) = Unit {0}

hand_chooses : (o : Option Decoder) (r : Result Hand PacketFault) → decoder_by r ≡ o →
    Chooses o stages.Hand (in_hand r)
hand_chooses o (Ok (Handshake protocol address port next)) is = (wanted_first next, sym is)
hand_chooses o (Err fault) is = tt

status_chooses : (o : Option Decoder) (most online : ℕ) (r : Result StatusUp PacketFault) →
    Chooses o stages.Status (in_status most online r)
status_chooses o most online (Ok Request) = tt
status_chooses o most online (Ok (Ping number)) = tt
status_chooses o most online (Err fault) = tt

login_chooses : (o : Option Decoder) (r : Result LoginUp PacketFault) →
    Chooses o stages.Login (in_login r)
login_chooses o (Ok (Start name)) = tt
login_chooses o (Err fault) = tt

play_chooses : (o : Option Decoder) (r : Result PlayUp PacketFault) →
    Chooses o stages.Play (in_play r)
play_chooses o (Ok packet) = tt
play_chooses o (Err fault) = tt

pub chooses : (o : Option Decoder) (stage : Stage) (most online : ℕ) (frame : List ℕ)
    → (stage ≡ stages.Hand → decoder_in (frame ∷ []) ≡ o) →
    Chooses o stage (request_of stage most online frame)
unfolding request_of
chooses o stages.Hand most online frame first =
    hand_chooses o (rows.packet_of frame (rows.packet_read hand.rows frame)) (first refl)
chooses o stages.Status most online frame first =
    status_chooses o most online (rows.packet_of frame (rows.packet_read status.rows frame))
chooses o stages.Login most online frame first =
    login_chooses o (rows.packet_of frame (rows.packet_read login.rows frame))
chooses o stages.Asked most online frame first = λ same. absurd cc
chooses o stages.Play most online frame first =
    play_chooses o (rows.packet_of frame (rows.packet_read play.rows frame))
chooses o stages.Closed most online frame first = λ same. absurd cc
