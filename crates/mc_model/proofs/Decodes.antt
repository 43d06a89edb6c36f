-- What is handed out as frames, one after another, is cut into them again, and decoded as those
-- packets.
use Rattle.std.proofs.Common.{arith, ◌≡◌, ℕ, ◌^◌, ◌<◌, List, ◌∷◌, ◌++◌, map, refl, sym, []}
use Rattle.std.specs.Prelude.{Some}
use Rattle.std.proofs.lemmas.List.{append-nil}
use Rattle.std.proofs.lemmas.Bool.Decides.{nat_tests}
use Rattle.mc_fields.specs.Row.{most}
use Rattle.mc_frame.specs.Frame.{IsPayload, frame_spelling}
use Rattle.mc_frame.specs.FrameLaws.{frame_spelled, packet_payload}
use Rattle.mc_frame.specs.Cut.{SpellsFrames}
use Rattle.mc_frame.proofs.Stops.{nothing_part}
use Rattle.mc_hello.specs.declared.status_down.StatusDown.{StatusDown}
use Rattle.mc_hello.specs.declared.status_down.StatusDown.TheVariants.{Pong}
use Rattle.mc_hello.specs.declared.login_down.LoginDown.{LoginDown}
use Rattle.mc_hello.specs.declared.login_down.LoginDown.TheVariants.{Disconnect}
use Rattle.mc_hello.specs.StatusDown as status
use Rattle.mc_hello.specs.LoginDown as login
use Rattle.mc_hello.proofs.StatusDownLaws as status_laws
use Rattle.mc_hello.proofs.LoginDownLaws as login_laws
use Rattle.mc_packets.specs.declared.down.Down.{Down}
use Rattle.mc_packets.specs.declared.down.Down.TheVariants.{KeepAlive}
use Rattle.mc_packets.specs.Down as play
use Rattle.mc_packets.proofs.DownLaws as play_laws
use Rattle.mc_model.specs.Packets.{Sent, of_status, of_login, of_play, frame_of, bytes_of, Decoder}
use Rattle.mc_model.specs.Packets.{for_status, for_login, for_play}
use Rattle.mc_model.specs.Packets.{decoded_as, decoder_after, decoded_frames}
use Rattle.mc_model.specs.Packets.{IsDecodedBy}

-- what its frame holds
abbrev pub payload_of : Sent → List ℕ
payload_of (of_status packet) = status.spelling_of packet
payload_of (of_login packet) = login.spelling_of packet
payload_of (of_play packet) = play.spelling_of packet

-- a packet that fits a frame and is decoded by this decoder
abbrev pub IsClear : Decoder → Sent → Type 0
IsClear for_status (of_status packet) =
    status.FitsStatusDown packet × IsPayload (status.spelling_of packet)
IsClear for_login (of_login packet) =
    login.FitsLoginDown packet × IsPayload (login.spelling_of packet)
IsClear for_play (of_play packet) = play.FitsDown packet × IsPayload (play.spelling_of packet)
IsClear for_status (of_login packet) = ⊥
IsClear for_status (of_play packet) = ⊥
IsClear for_login (of_status packet) = ⊥
IsClear for_login (of_play packet) = ⊥
IsClear for_play (of_status packet) = ⊥
IsClear for_play (of_login packet) = ⊥

-- a packet that has a spelling, and by its format none of too many bytes, is one
pub status_clear : (packet : StatusDown) → status.FitsStatusDown packet
    → most (status.entry_of packet) < 2 ^ 21 → IsClear for_status (of_status packet)
status_clear (Pong number) fits few =
    (fits, packet_payload (status.entry_of (Pong number)) fits few)
status_clear packet fits few = (fits, packet_payload (status.entry_of packet) fits few)

pub login_clear : (packet : LoginDown) → login.FitsLoginDown packet
    → most (login.entry_of packet) < 2 ^ 21 → IsClear for_login (of_login packet)
login_clear (Disconnect reason) fits few =
    (fits, packet_payload (login.entry_of (Disconnect reason)) fits few)
login_clear packet fits few = (fits, packet_payload (login.entry_of packet) fits few)

pub play_clear : (packet : Down) → play.FitsDown packet → most (play.entry_of packet) < 2 ^ 21
    → IsClear for_play (of_play packet)
play_clear (KeepAlive beat) fits few =
    (fits, packet_payload (play.entry_of (KeepAlive beat)) fits few)
play_clear packet fits few = (fits, packet_payload (play.entry_of packet) fits few)

-- all of these are decoded by it one after another, and what follows by that
abbrev pub Decodes : Decoder → List Sent → Decoder → Type 0
Decodes decoder [] end = decoder ≡ end
Decodes decoder (packet ∷ packets) end =
    IsClear decoder packet × Decodes (decoder_after decoder packet) packets end

-- some and then others
pub decodes_more : (decoder middle end : Decoder) (packets others : List Sent) →
    Decodes decoder packets middle → Decodes middle others end
    → Decodes decoder (packets ++ others) end
decodes_more decoder middle end [] others h later = search (arith)
decodes_more decoder middle end (packet ∷ packets) others h later =
    search (arith, decodes_more (decoder_after decoder packet) middle end packets others h.1 later)

-- it fits a frame
clear_payload : (decoder : Decoder) (packet : Sent) → IsClear decoder packet →
    IsPayload (payload_of packet)
clear_payload decoder packet c = grind (arith, nat_tests)

-- and is decoded in it
clear_decoded : (decoder : Decoder) (packet : Sent) → IsClear decoder packet →
    decoded_as decoder (payload_of packet) ≡ Some packet
clear_decoded decoder packet c =
    grind (arith, nat_tests, status_laws.again, login_laws.again, play_laws.again)

-- a frame holds its payload
framed : (packet : Sent) → frame_of packet ≡ frame_spelling (payload_of packet)
unfolding frame_of
framed packet = grind (arith, nat_tests)

-- all are decoded in their frames
decoded_again : (decoder end : Decoder) (packets : List Sent) → Decodes decoder packets end →
    decoded_frames decoder (map payload_of packets) ≡ Some packets
decoded_again decoder end [] h = refl
decoded_again decoder end (packet ∷ packets) h = grind (
  arith,
  nat_tests,
  clear_decoded,
  decoded_again (decoder_after decoder packet) end packets h.1,
)

-- the bytes are these frames
framed_again : (decoder end : Decoder) (packets : List Sent) → Decodes decoder packets end
    → SpellsFrames (map payload_of packets) (bytes_of packets)
framed_again decoder end [] h = refl
framed_again decoder end (packet ∷ packets) h = (
  frame_of packet,
  bytes_of packets,
  refl,
  rw (framed packet)
      (frame_spelled (payload_of packet) (clear_payload decoder packet h.0)),
  framed_again
      (decoder_after decoder packet) end packets h.1,
)

-- so they are decoded from the bytes
pub decodes_bytes : (decoder end : Decoder) (packets : List Sent) → Decodes decoder packets end →
    IsDecodedBy decoder (bytes_of packets) packets
decodes_bytes decoder end packets h = record {
  frames = map payload_of packets;
  is_cut = record {
    front = bytes_of packets;
    parts = sym (append-nil (bytes_of packets));
    framed =
        framed_again decoder end packets h;
    ends = nothing_part;
  };
  are = decoded_again decoder end packets h;
}
