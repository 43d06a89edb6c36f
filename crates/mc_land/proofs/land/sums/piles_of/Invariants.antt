use Rattle.std.proofs.Common.{◌≡◌, ◌<◌, ◌≤◌, ◌*◌, take, length}
use Rattle.std.specs.List.{sum_by}
use Rattle.mc_slots.specs.Chest.{chest_size}
use Rattle.mc_slots.specs.Pile.{count_of}
use Rattle.mc_land.proofs.land.sums.piles_of.Given as goal

-- the piles below i are counted
abbrev pub invariant-loop-i : goal.invariant-loop-i
invariant-loop-i l = (l.total ≡ sum_by count_of (take l.i l.chest)) × (l.total ≤ l.i * 64) ×
    (0 < l.i → length l.chest ≡ chest_size)
