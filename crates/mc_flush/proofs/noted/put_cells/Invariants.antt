use Rattle.std.proofs.Common.{◌≡◌, ◌+◌, ◌++◌, drop}
use Rattle.mc_view.specs.Sets.{has}
use Rattle.mc_model.specs.Notes.{noted_packets}
use Rattle.mc_flush.specs.Encoding.{noted_cost}
use Rattle.mc_sending.specs.Sending.{play_bytes}
use Rattle.mc_flush.proofs.noted.put_cells.Given as goal

-- what was sent and what is left make all, and so do the looks
abbrev pub invariant-loop-cell : goal.invariant-loop-cell
invariant-loop-cell g l = record {
  sent : l.out.items ++ play_bytes (noted_packets l.land.terrain l.land.edits (has l.view) (drop
      l.cell-index l.cells)) ≡ l.initial.out.items
      ++ play_bytes (noted_packets l.land.terrain l.land.edits (has l.view) l.cells);
  cost : l.steps + noted_cost l.view (drop l.cell-index l.cells) ≡ l.initial.steps + noted_cost
      l.view l.cells;
}
