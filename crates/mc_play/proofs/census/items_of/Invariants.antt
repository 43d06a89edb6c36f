use Rattle.std.proofs.Common.{◌≡◌, ◌≤◌, ◌*◌, take}
use Rattle.std.specs.List.{sum_by}
use Rattle.mc_slots.specs.Pile.{count_of}
use Rattle.mc_play.proofs.census.items_of.Given as goal

-- the piles below the place are counted
abbrev pub invariant-loop-pile : goal.invariant-loop-pile
invariant-loop-pile l = (l.total ≡ sum_by count_of (take l.pile-index l.piles)) ×
    (l.total ≤ l.pile-index * 255)
