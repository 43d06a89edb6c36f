use Rattle.std.proofs.Common.{◌≡◌, ◌++◌, drop}
use Rattle.mc_told.specs.Runs.{frames_in}
use Rattle.mc_told.proofs.encoded_moves.put_frames.Given as goal

-- with the frames of what is left it is with all of them
abbrev pub invariant-loop-row : goal.invariant-loop-row
invariant-loop-row l =
    l.out.items ++ frames_in (drop l.row-index l.rows) ≡ l.initial.out.items ++ frames_in l.rows
