use Rattle.std.proofs.Common.{◌≡◌, ◌++◌}
use Rattle.std.specs.List.{AllByRecursion}
use Rattle.mc_land.specs.Places.{IsPlace}
use Rattle.mc_sending.specs.Sending.{play_bytes}
use Rattle.mc_loads.specs.Columns.{unload_packets}
use Rattle.mc_loads.proofs.columns.put_unloads.Given as goal

-- what was sent and what is left make all
abbrev pub invariant-loop-place : goal.invariant-loop-place
invariant-loop-place l = record {
  near : AllByRecursion IsPlace l.place-iterator;
  sent : l.out.items ++ play_bytes (unload_packets l.place-iterator) ≡ l.initial.out.items ++
      play_bytes (unload_packets l.initial.place-iterator);
}
