-- What is handed out to a client: packets of the status, of the login or of play, each as a frame.
-- What a client makes of their bytes.
use Rattle.std.specs.Prelude.{◌≡◌, ℕ, List, [], ◌∷◌, Option, Some, None, Result, Ok, Err}
use Rattle.std.specs.Prelude.{option_map}
use Rattle.std.specs.List.{flat_map, filter_map}
use Rattle.mc_fields.specs.declared.packet.RowFault.{RowFault}
use Rattle.mc_fields.specs.Row.{packet_read}
use Rattle.mc_frame.specs.Frame.{frame_spelling}
use Rattle.mc_frame.specs.Cut.{IsCut}
use Rattle.mc_hello.specs.declared.status_down.StatusDown.{StatusDown}
use Rattle.mc_hello.specs.declared.login_down.LoginDown.{LoginDown}
use Rattle.mc_hello.specs.declared.login_down.LoginDown.TheVariants.{Success}
use Rattle.mc_hello.specs.StatusDown as status
use Rattle.mc_hello.specs.LoginDown as login
use Rattle.mc_packets.specs.declared.down.Down.{Down}
use Rattle.mc_packets.specs.Down as play

pub data Sent : Type 0 where
  of_status : StatusDown → Sent
  of_login : LoginDown → Sent
  of_play : Down → Sent

-- the frame that it is handed out as
unfoldable pub frame_of : Sent → List ℕ
frame_of (of_status packet) = frame_spelling (status.spelling_of packet)
frame_of (of_login packet) = frame_spelling (login.spelling_of packet)
frame_of (of_play packet) = frame_spelling (play.spelling_of packet)

abbrev pub bytes_of : List Sent → List ℕ
bytes_of packets = flat_map frame_of packets

-- the packets of play among them
abbrev pub in_play : Sent → Option Down
in_play (of_play packet) = Some packet
in_play other = None

abbrev pub played : List Sent → List Down
played packets = filter_map in_play packets

-- ---- what a client decodes

-- by which packets it decodes: those of the status, or those of a login, and after Login Success
-- those of play
pub data Decoder : Type 0 where
  for_status : Decoder
  for_login : Decoder
  for_play : Decoder

abbrev pub sent_status : Result StatusDown RowFault → Option Sent
sent_status (Ok packet) = Some (of_status packet)
sent_status (Err fault) = None

abbrev pub sent_login : Result LoginDown RowFault → Option Sent
sent_login (Ok packet) = Some (of_login packet)
sent_login (Err fault) = None

abbrev pub sent_play : Result Down RowFault → Option Sent
sent_play (Ok packet) = Some (of_play packet)
sent_play (Err fault) = None

-- the packet of a frame
abbrev pub decoded_as : Decoder → List ℕ → Option Sent
decoded_as for_status frame = sent_status (packet_read status.rows frame)
decoded_as for_login frame = sent_login (packet_read login.rows frame)
decoded_as for_play frame = sent_play (packet_read play.rows frame)

-- by which it decodes after a packet
abbrev pub decoder_after : Decoder → Sent → Decoder
decoder_after decoder (of_login (Success uuid name)) = for_play
decoder_after decoder other = decoder

-- a packet before what is decoded after it
abbrev pub before_others : Option Sent → (Sent → Option (List Sent)) → Option (List Sent)
before_others None others = None
before_others (Some packet) others = option_map (λ packets. packet ∷ packets) (others packet)

-- the packets of frames, one after another; none where one of them is no packet
abbrev pub decoded_frames : Decoder → List (List ℕ) → Option (List Sent)
decoded_frames decoder [] = Some []
decoded_frames decoder (frame ∷ frames) =
    before_others (decoded_as decoder frame)
    (λ packet. decoded_frames (decoder_after decoder packet) frames)

-- The bytes are cut into frames, with nothing behind them, and those are decoded as the packets.
pub record IsDecodedBy (decoder : Decoder) (bytes : List ℕ) (packets : List Sent) : Type 0 where
  pub frames : List (List ℕ)
  pub is_cut : IsCut bytes (record { frames = frames; rest = []; fault = None })
  pub are : decoded_frames decoder frames ≡ Some packets
