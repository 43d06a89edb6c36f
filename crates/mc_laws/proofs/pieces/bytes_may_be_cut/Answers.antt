use Rattle.mc_laws.proofs.Cutting.Pieces.{pieces_same}
use Rattle.mc_laws.proofs.Cutting.Worlds.{events_same}
use Rattle.mc_laws.proofs.pieces.bytes_may_be_cut.Goals as goal

pub returns : goal.returns
returns c = record {
  apart = λ w k bytes more fits come come_too. events_same w k bytes more fits come come_too;
  taken = λ k s pieces owed waits are room. pieces_same k pieces s owed waits are room;
}
