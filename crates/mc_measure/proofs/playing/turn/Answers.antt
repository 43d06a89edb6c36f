use Rattle.std.proofs.Common.{◌≡◌, List, ℕ, rules}
use Rattle.std.proofs.lemmas.Result.{IfOk-weaker}
use Rattle.mc_load.specs.Load.{turn_bytes}
use Rattle.mc_measure.proofs.Played.{came_as}
use Rattle.mc_measure.proofs.playing.turn.Goals as goal

pub returns-clause-played : goal.returns-clause-played
returns-clause-played g c w st =
    let sent : List ℕ = c.as_slice.result.now in
    let bytes : List ℕ = turn_bytes c.args.client c.args.tick in
    let is : sent ≡ bytes = search rules in
    IfOk-weaker c.hear.result _ _ (λ count. came_as c.args.client sent bytes w _ count is)
    (c.hear.ensures.played w st)
