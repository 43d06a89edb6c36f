use Rattle.std.proofs.Common.{◌≡◌, ◌++◌, drop}
use Rattle.std.specs.List.{filter_map}
use Rattle.mc_play.specs.Picking.{picker}
use Rattle.mc_play.proofs.game.pickups.pickers_among.Given as goal

-- those that were found and those among what is left are together all
abbrev pub invariant-loop-entity : goal.invariant-loop-entity
invariant-loop-entity l =
    l.connections.items ++ filter_map (picker l.players) (drop l.entity-index l.entities)
    ≡ filter_map (picker l.players) l.entities
