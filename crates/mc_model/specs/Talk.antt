-- What a frame of a client comes to, by the stage of its connection alone: of the pages 'Protocol'
-- and 'Server List Ping' of wiki.vg for protocol 47.
use Rattle.std.specs.Prelude.{ℕ, ◌==◌, List, [], ◌∷◌, Option, Some, None, Result, Ok, Err}
use Rattle.std.specs.Prelude.{if◌then◌else◌}
use lib.IntN.{ℤ, pos, negsuc}
use Rattle.mc_fields.specs.declared.packet.PacketFault.{PacketFault}
use Rattle.mc_fields.specs.Row.{packet_read, packet_of}
use Rattle.mc_hello.specs.declared.handshake.Hand.{Hand}
use Rattle.mc_hello.specs.declared.handshake.Hand.TheVariants.{Handshake}
use Rattle.mc_hello.specs.declared.status_up.StatusUp.{StatusUp}
use Rattle.mc_hello.specs.declared.status_up.StatusUp.TheVariants.{Request, Ping}
use Rattle.mc_hello.specs.declared.status_down.StatusDown.{StatusDown}
use Rattle.mc_hello.specs.declared.status_down.StatusDown.TheVariants.{Response, Pong}
use Rattle.mc_hello.specs.declared.login_up.LoginUp.{LoginUp}
use Rattle.mc_hello.specs.declared.login_up.LoginUp.TheVariants.{Start}
use Rattle.mc_hello.specs.declared.login_down.LoginDown.TheVariants as login_down
use Rattle.mc_hello.specs.Hand as hand
use Rattle.mc_hello.specs.StatusUp as status
use Rattle.mc_hello.specs.LoginUp as login
use Rattle.mc_up.specs.declared.play_up.PlayUp.{PlayUp}
use Rattle.mc_up.specs.PlayUp as play
use Rattle.mc_packets.specs.declared.down.Down.TheVariants as down
use Rattle.mc_model.specs.declared.cause.Cause.{Cause}
use Rattle.mc_model.specs.declared.cause.Refusal.{Refusal}
use Rattle.mc_model.specs.declared.stage.Stage.{Stage}
use Rattle.mc_model.specs.declared.stage.Stage.TheVariants as stages
use Rattle.mc_model.specs.Names.{uuid_text}
use Rattle.mc_model.specs.Texts.{chat_json, status_json, refusal_text, farewell_text}
use Rattle.mc_model.specs.Packets.{Sent, of_login, of_play}

-- ---- what a frame comes to

pub data ClientRequest : Type 0 where
  -- it is ignored
  nothing : ClientRequest
  -- the protocol that the client speaks, and the stage that it wants
  greets : ℤ → Stage → ClientRequest
  -- it is answered
  replies : StatusDown → ClientRequest
  -- it is answered, and the connection is done
  ends : StatusDown → ClientRequest
  -- the client wants to play under this name
  enters : List ℕ → ClientRequest
  -- its player does something
  acts : PlayUp → ClientRequest
  -- it is no packet
  wrong : PacketFault → ClientRequest

-- 1 is the status, and there is but one other
abbrev pub wanted : ℤ → Stage
wanted (pos n) = if n == 1 then stages.Status else stages.Login
wanted (negsuc n) = stages.Login

abbrev pub in_hand : Result Hand PacketFault → ClientRequest
in_hand (Ok (Handshake protocol address port next)) = greets protocol (wanted next)
in_hand (Err fault) = wrong fault

abbrev pub in_status : ℕ → ℕ → Result StatusUp PacketFault → ClientRequest
in_status most online (Ok Request) = replies (Response (status_json most online))
in_status most online (Ok (Ping number)) = ends (Pong number)
in_status most online (Err fault) = wrong fault

abbrev pub in_login : Result LoginUp PacketFault → ClientRequest
in_login (Ok (Start name)) = enters name
in_login (Err fault) = wrong fault

abbrev pub in_play : Result PlayUp PacketFault → ClientRequest
in_play (Ok packet) = acts packet
in_play (Err fault) = wrong fault

-- with so many players at most and so many in play
unfoldable pub request_of : Stage → ℕ → ℕ → List ℕ → ClientRequest
request_of stages.Hand most online frame = in_hand (packet_of frame (packet_read hand.rows frame))
request_of stages.Status most online frame =
    in_status most online (packet_of frame (packet_read status.rows frame))
request_of stages.Login most online frame =
    in_login (packet_of frame (packet_read login.rows frame))
request_of stages.Asked most online frame = nothing
request_of stages.Play most online frame = in_play (packet_of frame (packet_read play.rows frame))
request_of stages.Closed most online frame = nothing

-- ---- the last packet of a connection

abbrev pub as_chat : (List ℕ → Sent) → Option (List ℕ) → List Sent
as_chat as_packet None = []
as_chat as_packet (Some text) = as_packet (chat_json text) ∷ []

-- what a client is told whose connection is closed for a cause, by the stage that it had come to
unfoldable pub farewell : Stage → Cause → List Sent
farewell stages.Login cause =
    as_chat (λ json. of_login (login_down.Disconnect json)) (farewell_text cause)
farewell stages.Asked cause =
    as_chat (λ json. of_login (login_down.Disconnect json)) (farewell_text cause)
farewell stages.Play cause = as_chat (λ json. of_play (down.Disconnect json)) (farewell_text cause)
farewell other cause = []

-- a client that may not play is told why
unfoldable pub refused : Refusal → List Sent
refused why = of_login (login_down.Disconnect (chat_json (refusal_text why))) ∷ []

-- and one that may is told its player's identifier and name
unfoldable pub accepted : ℕ → List ℕ → List Sent
accepted uuid name = of_login (login_down.Success (uuid_text uuid) name) ∷ []
