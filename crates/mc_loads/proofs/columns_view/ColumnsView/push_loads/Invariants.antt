use Rattle.std.proofs.Common.{◌≡◌, ◌+◌, ◌*◌, ◌++◌, length}
use Rattle.std.specs.List.{AllByRecursion}
use Rattle.mc_column.specs.Sizes.{cells}
use Rattle.mc_frame.specs.Kept.{joined}
use Rattle.mc_sending.specs.Sending.{play_bytes}
use Rattle.mc_loads.specs.Columns.{IsReady, load_packets}
use Rattle.mc_loads.specs.ColumnFrames.{unencoded}
use Rattle.mc_loads.proofs.columns_view.ColumnsView.push_loads.Given as goal

-- what was sent and what is left make all
abbrev pub invariant-loop-place : goal.invariant-loop-place
invariant-loop-place g l = record {
  ready : AllByRecursion (IsReady l.self.land.now) l.place-iterator;
  sent : joined l.out.items ++ play_bytes (load_packets l.self.land.now l.place-iterator)
      ≡ joined l.initial.out.items ++ play_bytes (load_packets l.self.land.now
      l.initial.place-iterator);
  cost : l.steps + cells * length (unencoded l.self.encoded.now l.place-iterator)
      ≡ l.initial.steps + cells * length (unencoded l.self.encoded.now l.initial.place-iterator);
}
