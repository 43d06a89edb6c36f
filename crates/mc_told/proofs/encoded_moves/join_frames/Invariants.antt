use Rattle.mc_told.proofs.Runs.{JoinedTo}
use Rattle.mc_told.proofs.encoded_moves.join_frames.Given as goal

-- those before the place are joined
abbrev pub invariant-loop-row : goal.invariant-loop-row
invariant-loop-row l = JoinedTo l.rows l.row-index l.joined.items l.starts.items
