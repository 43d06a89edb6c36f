use Rattle.std.proofs.Common.{◌≡◌, ◌++◌, drop}
use Rattle.std.specs.List.{filter_map}
use Rattle.mc_play.specs.Picking.{ripe_at}
use Rattle.mc_play.proofs.ripe.ripe_among.Given as goal

-- those that were found and those among what is left are together all
abbrev pub invariant-loop-entity : goal.invariant-loop-entity
invariant-loop-entity l =
    l.found.items ++ filter_map (ripe_at l.age l.spot) (drop l.entity-index l.entities)
    ≡ filter_map (ripe_at l.age l.spot) l.entities
