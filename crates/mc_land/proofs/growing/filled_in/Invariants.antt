use Rattle.std.proofs.Common.{◌≡◌, ◌*◌, ◌≤◌, take}
use Rattle.std.specs.List.{sum_by}
use Rattle.mc_land.specs.GrownCode.{reach_in}
use Rattle.mc_land.proofs.growing.filled_in.Given as goal

-- the blocks at the places below are counted
abbrev pub invariant-loop-top : goal.invariant-loop-top
invariant-loop-top l = (l.total ≡ sum_by (reach_in l.low l.high) (take l.top-index l.tops)) ×
    (l.total ≤ l.top-index * 16)
