use Rattle.std.proofs.Common.{◌≡◌, ◌∷◌, [], List, ℕ, rules}
use Rattle.mc_model.specs.Step.{joined}
use Rattle.mc_load.specs.Load.{arrival_bytes}
use Rattle.mc_measure.specs.Settling.{settled_world}
use Rattle.mc_measure.proofs.Played.{arrived}
use Rattle.mc_measure.proofs.playing.arrive.Goals as goal

pub returns-clause-played : goal.returns-clause-played
returns-clause-played g c w st =
    let k : ℕ = c.args.client in
    let sent : List ℕ = c.as_slice.result.now in
    let is : sent ≡ arrival_bytes k = search rules in
    let first : c.from.result ≡ c.in_ok-joined.joined = search rules in
    let later : c.from-2.result ≡ c.in_ok-came.came = search rules in
    let a = c.in_ok-joined.ensures.played w tt st in
    let b = c.in_ok-came.ensures.played (settled_world w (joined k ∷ [])) a.stands in
    arrived k sent w _ _ _ _ _ _ is first later a b
