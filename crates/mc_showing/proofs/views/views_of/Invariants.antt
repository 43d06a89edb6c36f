use Rattle.std.proofs.Common.{◌≡◌, ◌++◌, map}
use Rattle.mc_model.specs.Game.{players_of}
use Rattle.mc_showing.specs.Around.{reach_of}
use Rattle.mc_showing.proofs.views.views_of.Given as goal

-- those that were appended, and those of the players that are left, are all
abbrev pub invariant-loop-player : goal.invariant-loop-player
invariant-loop-player l =
    l.views.items ++ map (reach_of l.game.game) l.player-iterator
    ≡ map (reach_of l.game.game) (players_of l.game.game)
