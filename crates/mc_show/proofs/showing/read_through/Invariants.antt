use Rattle.std.proofs.Common.{◌≡◌}
use Rattle.mc_wire.specs.Count.{StandsOrRises}
use Rattle.mc_show.proofs.Records.{IsFollowing}
use Rattle.mc_show.proofs.showing.read_through.Given as goal

abbrev pub invariant-loop : goal.invariant-loop
invariant-loop g l = record {
  follows : IsFollowing l.number (g.I.Source.left l.fn.reader.input.now)
      (g.I.Source.left l.reader.input.now) l.reader.at l.client;
  reference : l.reader.input.ghost_name ≡ l.fn.reader.input.ghost_name;
  counts : StandsOrRises (g.I.Source.faults l.fn.reader.input.now)
      (g.I.Source.faults l.reader.input.now);
}
