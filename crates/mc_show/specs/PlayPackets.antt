-- The packets of play that a client took, out of a capture: those of the frames to it that become
-- whole while it plays, up to the first fault of that way (rules of this project, over the frames
-- and packets of protocol 47).
use Rattle.std.specs.Prelude.{ℕ, ◌==◌, List, [], ◌∷◌, ◌++◌, Option, Some, None, Result, Ok, Err}
use Rattle.std.specs.Prelude.{if◌then◌else◌}
use Rattle.mc_bytes.specs.Reading.{Field}
use Rattle.mc_fields.specs.declared.packet.PacketFault.{PacketFault}
use Rattle.mc_fields.specs.Row.{packet_of, packet_read}
use Rattle.mc_frame.specs.Frame.{frame_read}
use Rattle.mc_packets.specs.declared.down.Down.{Down}
use Rattle.mc_packets.specs.Down.{rows}
use Rattle.mc_capture.specs.declared.record.Record.{Record}
use Rattle.mc_capture.specs.declared.states.State.{State}
use Rattle.mc_capture.specs.declared.states.State.TheVariants.{Play}
use Rattle.mc_capture.specs.declared.states.States.{States}
use Rattle.mc_capture.specs.declared.states.Way.{Way}
use Rattle.mc_capture.specs.declared.states.Way.TheVariants.{Down as ToClient}
use Rattle.mc_capture.specs.Frames.{state_of}
use Rattle.mc_capture.specs.Talks.{Hearing, Talk, hearing_of, new_talk, on_byte}
use Rattle.mc_capture.specs.ViewText.{after_record}

-- ---- one way of a connection

-- a packet, where reading gave one
abbrev pub found_packet : Result Down PacketFault → List Down
found_packet (Ok packet) = packet ∷ []
found_packet (Err fault) = []

-- the packet of play that a frame is, by its way and the state that this has come to
unfoldable pub frame_packets : Way → State → List ℕ → List Down
frame_packets ToClient Play frame = found_packet (packet_of frame (packet_read rows frame))
frame_packets way state frame = []

-- of what reading a frame gave
abbrev pub read_packets : Way → States → Field (List ℕ) → List Down
read_packets way states (Ok x) = frame_packets way (state_of way states) x.0
read_packets way states (Err stop) = []

-- of one byte more, by the bytes that wait; a silent way has none
abbrev pub byte_packets : Way → States → Option (List ℕ) → ℕ → List Down
byte_packets way states None b = []
byte_packets way states (Some bytes) b =
    read_packets way states (frame_read (bytes ++ b ∷ []))

-- of bytes, one after another, on a connection of this number
abbrev pub heard_packets : ℕ → Way → Hearing → List ℕ → List Down
heard_packets k way now [] = []
heard_packets k way now (b ∷ bytes) =
    byte_packets way now.states now.waits b
    ++ heard_packets k way (on_byte k way now.states now.waits b).1 bytes

-- ---- records

-- of a record, by what its connection came to before it
abbrev pub record_packets : Talk → Record → List Down
record_packets talk r =
    if r.kind == 4 then heard_packets r.connection ToClient (hearing_of ToClient talk) r.bytes
    else []

-- of the records of one connection among some, from what it came to before them
abbrev pub packets_behind : ℕ → Talk → List Record → List Down
packets_behind k talk [] = []
packets_behind k talk (r ∷ records) =
    if r.connection == k
    then record_packets talk r ++ packets_behind k (after_record talk r) records
    else packets_behind k talk records

abbrev pub play_packets : ℕ → List Record → List Down
play_packets k records = packets_behind k new_talk records
