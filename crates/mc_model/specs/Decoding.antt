-- By which packets a client decodes what it is handed: those of the status or those of a login, as
-- its handshake asks, and behind Login Success those of play. Of the page 'Protocol' of wiki.vg for
-- protocol 47.
use Rattle.std.specs.Prelude.{◌≡◌, ℕ, List, [], ◌∷◌, Option, Some, None, Result, Ok, Err}
use Rattle.mc_fields.specs.declared.packet.PacketFault.{PacketFault}
use Rattle.mc_fields.specs.Row.{packet_read, packet_of}
use Rattle.mc_hello.specs.declared.handshake.Hand.{Hand}
use Rattle.mc_hello.specs.declared.handshake.Hand.TheVariants.{Handshake}
use Rattle.mc_hello.specs.Hand as hand
use Rattle.mc_model.specs.declared.stage.Stage.{Stage}
use Rattle.mc_model.specs.declared.stage.Stage.TheVariants as stages
use Rattle.mc_model.specs.Cutting.{cut_of}
use Rattle.mc_model.specs.Packets.{Sent, Decoder, for_status, for_login, IsDecodedBy}
use Rattle.mc_model.specs.Talk.{wanted}

-- of a client that wants this stage
abbrev pub decoder_for : Stage → Decoder
decoder_for stages.Status = for_status
decoder_for other = for_login

-- of one that sent this handshake
abbrev pub decoder_by : Result Hand PacketFault → Option Decoder
decoder_by (Ok (Handshake protocol address port next)) = Some (decoder_for (wanted next))
decoder_by (Err fault) = None

-- of one that sent these frames, by the first of them
abbrev pub decoder_in : List (List ℕ) → Option Decoder
decoder_in [] = None
decoder_in (frame ∷ later) = decoder_by (packet_of frame (packet_read hand.rows frame))

-- of one that sent these bytes; none where they begin with no handshake
abbrev pub decoder_of : List ℕ → Option Decoder
decoder_of bytes = decoder_in (cut_of 0 bytes).frames

-- A client that sent some bytes decodes others as these packets. One that sent no handshake gets
-- nothing.
abbrev pub IsDecoded : Option Decoder → List ℕ → List Sent → Type 0
IsDecoded None bytes packets = (bytes ≡ []) × (packets ≡ [])
IsDecoded (Some decoder) bytes packets = IsDecodedBy decoder bytes packets
