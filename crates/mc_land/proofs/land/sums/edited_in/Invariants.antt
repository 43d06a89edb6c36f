use Rattle.std.proofs.Common.{◌≡◌, ◌*◌, ◌≤◌, take}
use Rattle.std.specs.List.{sum_by}
use Rattle.mc_land.specs.Sums.{changes_in}
use Rattle.mc_land.proofs.land.sums.edited_in.Given as goal

-- the columns below the place are counted
abbrev pub invariant-loop-ready : goal.invariant-loop-ready
invariant-loop-ready l = (l.total ≡ sum_by changes_in (take l.ready-index l.columns.items)) ×
    (l.total ≤ l.ready-index * 65536)
