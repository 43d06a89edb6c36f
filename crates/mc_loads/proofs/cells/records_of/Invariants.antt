use Rattle.std.proofs.Common.{◌≡◌, ◌+◌, ◌++◌, drop, length, map}
use Rattle.mc_model.specs.Delta.{cell_record}
use Rattle.mc_loads.specs.Cells.{AreCells, indices, states_at}
use Rattle.mc_loads.proofs.cells.records_of.Given as goal

-- what was made and what is left make all
abbrev pub invariant-loop-cell : goal.invariant-loop-cell
invariant-loop-cell g l = record {
  made : l.records ++ map (cell_record (states_at l.land l.place)) (indices (drop l.cell-index
      l.touched)) ≡ map (cell_record (states_at l.land l.place)) (indices l.touched);
  cells : AreCells (states_at l.land l.place) (indices (drop l.cell-index l.touched)) →
      AreCells (states_at l.land l.place) (indices l.touched);
  cost : l.steps + length (drop l.cell-index l.touched) ≡ l.initial.steps + length l.touched;
}
