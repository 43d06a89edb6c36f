use Rattle.std.proofs.Common.{◌≡◌, drop}
use Rattle.mc_replica.specs.Cells.{recorded}
use Rattle.mc_replica.proofs.columns.set_all.Given as goal

abbrev pub invariant-loop-record : goal.invariant-loop-record
invariant-loop-record l =
    recorded (drop l.record-index l.records) l.column ≡ recorded l.records l.fn.column
