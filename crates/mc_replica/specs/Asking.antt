-- Packets that a client can be asked to send.
use Rattle.std.specs.Prelude.{ℕ, ◌^◌, ◌<◌, List, length}
use Rattle.mc_frame.specs.Frame.{frame_spelling}
use Rattle.mc_up.specs.declared.play_up.PlayUp.{PlayUp}
use Rattle.mc_up.specs.PlayUp.{SpellsPlayUp, spelling_of}

-- it has a spelling, and the one that is written is no longer than a frame can be
pub record CanAsk (packet : PlayUp) : Type 0 where
  pub spelled : (bytes : List ℕ) × SpellsPlayUp packet bytes
  pub counted : length (spelling_of packet) < 2 ^ 21

-- its frame
abbrev pub frame_of : PlayUp → List ℕ
frame_of packet = frame_spelling (spelling_of packet)
