use Rattle.std.proofs.Common.{◌≡◌, ◌∷◌, [], ◌++◌, List, map, refl, rules}
use Rattle.std.specs.List.{range_with_len}
use Rattle.mc_model.specs.Step.{Event, ticked}
use Rattle.mc_load.specs.Load.{client_turn}
use Rattle.mc_measure.specs.Settling.{settled_world}
use Rattle.mc_measure.proofs.Played.{played_as}
use Rattle.mc_measure.proofs.playing.play_round.Goals as goal

pub returns-clause-played : goal.returns-clause-played
returns-clause-played g c w st =
    let turns : List Event = map (client_turn c.args.tick) (range_with_len 0 c.args.clients) in
    let is : c.from.result ≡ c.in_ok-ticked.ticked = search rules in
    let a = c.in_ok-sent.ensures.played w st in
    let b = c.in_ok-ticked.ensures.played (settled_world w turns) tt a.stands in
    played_as turns (ticked ∷ []) (turns ++ ticked ∷ []) w _ _ _ _ _ refl is a b
