use Rattle.mc_loads.proofs.Places.{piece_pushed}
use Rattle.mc_loads.proofs.pieces.push_piece.Goals as goal

pub returns : goal.returns
returns c = piece_pushed _ _ _ c.in_ok-push.ensures.items
