use Rattle.std.proofs.Common.{◌++◌, ◌+◌, ◌∙◌, ap, arith}
use Rattle.mc_told.specs.Runs.{LooksValue, frames_between}
use Rattle.mc_told.proofs.Runs.{run_on}
use Rattle.mc_told.proofs.encoded_looks.EncodedLooks.go_on.Goals as goal

pub returns-clause-due : goal.returns-clause-due
returns-clause-due c =
    let moves = c.self.inside.encoded.now.moves in
    let first = c.self.inside.first in
    let behind = c.self.inside.behind in
    ap (frames_between moves first) c.behind-self-inside.ensures
    ∙ run_on moves first behind (behind + 1) c.self.invariant.rising (omega arith)
    ∙ ap (λ (looks : LooksValue). looks.due
    ++ frames_between looks.encoded.moves looks.place (looks.place + 1)) c.self.view_is
