-- Packets of play, each in the frame in which a client sends it. Rules of this project.
use Rattle.std.specs.Prelude.{ℕ, List}
use Rattle.mc_frame.specs.Frame.{IsPayload, frame_spelling}
use Rattle.mc_up.specs.declared.play_up.PlayUp.{PlayUp}
use Rattle.mc_up.specs.PlayUp.{SpellsPlayUp, spelling_of}

-- it has a spelling, and a frame can hold the one that is written
pub record CanSend (packet : PlayUp) : Type 0 where
  pub spelled : (bytes : List ℕ) × SpellsPlayUp packet bytes
  pub held : IsPayload (spelling_of packet)

-- the frame of it
abbrev pub packet_frame : PlayUp → List ℕ
packet_frame packet = frame_spelling (spelling_of packet)
