-- Frames that are cut from bytes are bytes, and so is what is left; what a frame of them comes to
-- can be answered.
use Rattle.std.proofs.lemmas.Bool.Decides.{nat_tests}
use Rattle.std.proofs.Common.{◌≡◌, ℕ, zero, suc, ◌≤◌, List, [], ◌∷◌, ◌++◌, Result, Ok, Err, refl}
use Rattle.std.proofs.Common.{subst, arith}
use Rattle.std.specs.List.{AllByRecursion}
use Rattle.std.specs.Int.{w64}
use lib.IntN.{ℤ}
use mir.Val.{SFits}
use Rattle.mc_bytes.specs.Reading.{IsBytes}
use Rattle.mc_bytes.specs.Numbers.{IsBytes-after}
use Rattle.mc_fields.specs.declared.packet.RowFault.{RowFault}
use Rattle.mc_fields.specs.declared.packet.PacketFault.{PacketFault}
use Rattle.mc_fields.specs.Row.{packet_read, packet_of}
use Rattle.mc_fields.specs.RowLaws.{frame_found, spelled_fits}
use Rattle.mc_frame.specs.Cut.{SpellsFrames}
use Rattle.mc_hello.specs.declared.handshake.Hand.{Hand}
use Rattle.mc_hello.specs.declared.handshake.Hand.TheVariants.{Handshake}
use Rattle.mc_hello.specs.declared.status_up.StatusUp.{StatusUp}
use Rattle.mc_hello.specs.declared.status_up.StatusUp.TheVariants.{Request, Ping}
use Rattle.mc_hello.specs.declared.login_up.LoginUp.{LoginUp}
use Rattle.mc_hello.specs.declared.login_up.LoginUp.TheVariants.{Start}
use Rattle.mc_hello.specs.StatusUp as status
use Rattle.mc_up.specs.declared.play_up.PlayUp.{PlayUp}
use Rattle.mc_up.specs.PlayUp as play
use Rattle.mc_up.proofs.PlayUpLaws as play_laws
use Rattle.mc_model.specs.declared.stage.Stage.{Stage}
use Rattle.mc_model.specs.declared.stage.Stage.TheVariants as stages
use Rattle.mc_model.specs.Packets.{of_status, for_status}
use Rattle.mc_model.specs.Cutting.{cut_of}
use Rattle.mc_model.specs.Talk.{ClientRequest, nothing, greets, replies, ends, enters, acts, wrong}
use Rattle.mc_model.specs.Talk.{in_hand, in_status, in_login, in_play, request_of}
use Rattle.mc_model.proofs.CutFacts.{cut_of_bytes}
use Rattle.mc_model.proofs.Decodes.{IsClear}
use Rattle.mc_model.proofs.FitsText.{status_short}
use Rattle.mc_model.proofs.FitsTalk.{response_clear, pong_clear}

-- ---- bytes

-- bytes and then bytes are bytes
pub bytes_joined : (xs ys : List ℕ) → IsBytes xs → IsBytes ys → IsBytes (xs ++ ys)
bytes_joined [] ys a b i = b i
bytes_joined (x ∷ xs) ys a b zero = a 0
bytes_joined (x ∷ xs) ys a b (suc i) = bytes_joined xs ys (λ j. a (suc j)) b i

-- the front of bytes is bytes
bytes_before : (xs ys : List ℕ) → IsBytes (xs ++ ys) → IsBytes xs
bytes_before [] ys a i = omega arith
bytes_before (x ∷ xs) ys a zero = a 0
bytes_before (x ∷ xs) ys a (suc i) = bytes_before xs ys (λ j. a (suc j)) i

-- the payloads of frames that bytes spell are bytes
frames_bytes : (frames : List (List ℕ)) (bytes : List ℕ) → SpellsFrames frames bytes → IsBytes bytes
    → AllByRecursion IsBytes frames
frames_bytes [] bytes s b = tt
frames_bytes (frame ∷ frames) bytes (front, back, parts, spelled, later) b =
    let all : IsBytes (front ++ back) = subst IsBytes parts b in (
      IsBytes-after front spelled.size frame spelled.parts
          (bytes_before front back all),
      frames_bytes frames back later
          (IsBytes-after bytes front back parts b),
    )

-- the frames of the cut of bytes are bytes, and so is what is left
pub cut_bytes : (count : ℕ) (bytes : List ℕ) → IsBytes bytes
    → AllByRecursion IsBytes (cut_of count bytes).frames × IsBytes (cut_of count bytes).rest
cut_bytes count bytes b =
    let c = cut_of_bytes count bytes b in
    let all : IsBytes (c.front ++ (cut_of count bytes).rest) = subst IsBytes c.parts b in (
      frames_bytes (cut_of count bytes).frames c.front c.framed
          (bytes_before c.front (cut_of count bytes).rest all),
      IsBytes-after bytes c.front
          (cut_of count bytes).rest c.parts b,
    )

-- ---- answers

-- an answer to it is made out, and what a player does has a spelling
abbrev pub IsAnswered : ClientRequest → Type 0
IsAnswered nothing = Unit {0}
IsAnswered (greets protocol stage) = Unit {0}
IsAnswered (replies packet) = IsClear for_status (of_status packet)
IsAnswered (ends packet) = IsClear for_status (of_status packet)
IsAnswered (enters name) = Unit {0}
IsAnswered (acts packet) = play.FitsPlayUp packet
IsAnswered (wrong fault) = Unit {0}

-- the number of a ping that was read has a spelling
ping_fits : (frame : List ℕ) (number : ℤ) → IsBytes frame →
    packet_read status.rows frame ≡ Ok (Ping number) → SFits w64 number
ping_fits frame number b e = (spelled_fits (status.entry_of (Ping number)) frame
    (frame_found status.rows frame (Ping number) b e)).1.0

-- at each stage: the status
status_answered : (most online : ℕ) (frame : List ℕ) (r : Result StatusUp RowFault) → most ≤ 50 →
    online ≤ 50
    → ((number : ℤ) → r ≡ Ok (Ping number) → SFits w64 number) →
    IsAnswered (in_status most online (packet_of frame r))
status_answered most online frame (Ok Request) few fewer fits =
    response_clear _ (status_short most online few fewer)
status_answered most online frame (Ok (Ping number)) few fewer fits =
    pong_clear number (fits number refl)
status_answered most online frame (Err fault) few fewer fits = tt

-- the handshake
hand_answered : (r : Result Hand PacketFault) → IsAnswered (in_hand r)
hand_answered (Ok (Handshake protocol address port next)) = tt
hand_answered (Err fault) = tt

-- the login
login_answered : (r : Result LoginUp PacketFault) → IsAnswered (in_login r)
login_answered (Ok (Start name)) = tt
login_answered (Err fault) = tt

-- a packet of play that was read has a spelling
play_fits : (frame : List ℕ) (packet : PlayUp) → IsBytes frame →
    packet_read play.rows frame ≡ Ok packet → play.FitsPlayUp packet
play_fits frame packet b e =
    play_laws.fit packet frame
    (play_laws.seen packet frame (frame_found play.rows frame packet b e))

-- play
play_answered : (frame : List ℕ) (r : Result PlayUp RowFault) →
    ((packet : PlayUp) → r ≡ Ok packet → play.FitsPlayUp packet) →
    IsAnswered (in_play (packet_of frame r))
play_answered frame (Ok packet) fits = fits packet refl
play_answered frame (Err fault) fits = tt

-- whatever the frame is
pub request_answered : (stage : Stage) (most online : ℕ) (frame : List ℕ) → most ≤ 50 →
    online ≤ 50 → IsBytes frame
    → IsAnswered (request_of stage most online frame)
unfolding request_of
request_answered stages.Hand most online frame few fewer b = grind (arith, nat_tests, hand_answered)
request_answered stages.Status most online frame few fewer b =
    grind (arith, nat_tests, ping_fits, status_answered)
request_answered stages.Login most online frame few fewer b =
    grind (arith, nat_tests, login_answered)
request_answered stages.Asked most online frame few fewer b = tt
request_answered stages.Play most online frame few fewer b =
    grind (arith, nat_tests, play_answered, play_fits)
request_answered stages.Closed most online frame few fewer b = tt
