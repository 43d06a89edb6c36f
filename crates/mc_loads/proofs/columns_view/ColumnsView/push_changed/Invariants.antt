use Rattle.std.proofs.Common.{◌≡◌, ◌+◌, ◌++◌}
use Rattle.std.specs.List.{AllByRecursion}
use Rattle.mc_frame.specs.Kept.{joined}
use Rattle.mc_land.specs.Places.{IsPlace}
use Rattle.mc_sending.specs.Sending.{play_bytes}
use Rattle.mc_loads.specs.Columns.{changed_packets, staying}
use Rattle.mc_loads.specs.ColumnFrames.{changes_cost}
use Rattle.mc_loads.proofs.columns_view.ColumnsView.push_changed.Given as goal

-- what was sent and what is left make all
abbrev pub invariant-loop-place : goal.invariant-loop-place
invariant-loop-place g l = record {
  places : AllByRecursion IsPlace l.place-iterator;
  sent : joined l.out.items ++ play_bytes (changed_packets l.self.land.now (staying l.self.was
      l.self.view l.place-iterator)) ≡ joined l.initial.out.items ++ play_bytes (changed_packets
      l.self.land.now (staying l.self.was l.self.view l.initial.place-iterator));
  cost : l.steps + changes_cost l.self.encoded.now l.self.land.now (staying l.self.was l.self.view
      l.place-iterator) ≡ l.initial.steps + changes_cost l.self.encoded.now l.self.land.now
      (staying l.self.was l.self.view l.initial.place-iterator);
}
