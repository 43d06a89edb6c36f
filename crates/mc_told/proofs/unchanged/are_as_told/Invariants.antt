use Rattle.std.proofs.Common.{◌≡◌, map, drop}
use Rattle.std.specs.FinMap.{entries}
use Rattle.mc_model.specs.Sight.{others}
use Rattle.mc_told.specs.Telling.{rows_in, told_row}
use Rattle.mc_told.proofs.unchanged.are_as_told.Given as goal

-- all that was told is just the rows, where what was not gone past is just those of what comes
abbrev pub invariant-loop-entity : goal.invariant-loop-entity
invariant-loop-entity l =
    l.rest ≡ map told_row (rows_in l.view.view (others l.view.me (drop l.entity-index l.entities)))
    → entries l.told ≡ map told_row (rows_in l.view.view (others l.view.me l.entities))
