use Rattle.std.proofs.Common.{◌≡◌, ◌≤◌, ◌*◌, take}
use Rattle.mc_slots.specs.Pile.{count_of}
use Rattle.mc_play.specs.Census.{entities_items}
use Rattle.mc_play.proofs.entities.items_among.Given as goal

-- the entities below the place are counted
abbrev pub invariant-loop-entity : goal.invariant-loop-entity
invariant-loop-entity l =
    (l.total ≡ entities_items count_of (take l.entity-index l.entities)) ×
    (l.total ≤ l.entity-index * 255)
