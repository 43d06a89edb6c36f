use Rattle.std.proofs.Common.{◌≡◌, ◌++◌, length}
use Rattle.mc_model.specs.Delta.{destroying}
use Rattle.mc_sending.specs.Sending.{play_bytes}
use Rattle.mc_told.proofs.entities.put_destroys.Given as goal

-- what was sent and what is left make all
abbrev pub invariant-loop-rest : goal.invariant-loop-rest
invariant-loop-rest l = l.out.items ++ play_bytes (destroying l.rest)
    ≡ l.initial.out.items ++ play_bytes (destroying l.eids)

abbrev pub decreases-loop-rest : goal.decreases-loop-rest
decreases-loop-rest l = length l.rest
