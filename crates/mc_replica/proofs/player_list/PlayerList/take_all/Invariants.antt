use Rattle.std.proofs.Common.{◌≡◌, drop}
use Rattle.mc_model.specs.Replica.{with_players}
use Rattle.mc_replica.proofs.player_list.PlayerList.take_all.Given as goal

abbrev pub invariant-loop-player : goal.invariant-loop-player
invariant-loop-player l =
    with_players l.self (drop l.player-index l.players) ≡ with_players l.fn.self l.players
