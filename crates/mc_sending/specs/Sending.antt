-- Packets of play as the bytes of their frames.
use Rattle.std.specs.Prelude.{ℕ, List, map}
use Rattle.std.specs.List.{AllByRecursion}
use Rattle.mc_frame.specs.Frame.{IsPayload}
use Rattle.mc_packets.specs.declared.down.Down.{Down}
use Rattle.mc_packets.specs.Down.{FitsDown, spelling_of}
use Rattle.mc_model.specs.Packets.{of_play, bytes_of}

-- the frames of packets of play, one after another
abbrev pub play_bytes : List Down → List ℕ
play_bytes packets = bytes_of (map of_play packets)

-- the packet has a spelling, and that can be a frame's payload
abbrev pub IsClear : Down → Type 0
IsClear packet = FitsDown packet × IsPayload (spelling_of packet)

abbrev pub AreClear : List Down → Type 0
AreClear packets = AllByRecursion IsClear packets
