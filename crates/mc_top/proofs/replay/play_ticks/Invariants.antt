use Rattle.std.proofs.Common.{◌≡◌, ◌+◌, map}
use Rattle.std.specs.Prelude.{replicate}
use Rattle.mc_wire.specs.Count.{StandsOrRises}
use Rattle.mc_model.specs.Step.{ticked}
use Rattle.mc_model.specs.World.{World}
use Rattle.mc_events.specs.Served.{age_of}
use Rattle.mc_server.specs.Minded.{StandsFor}
use Rattle.mc_top.specs.Replaying.{HasPlayed}
use Rattle.mc_top.proofs.replay.play_ticks.Given as goal

abbrev pub invariant-loop-tick : goal.invariant-loop-tick
invariant-loop-tick g l = record {
  played : (w : World) → StandsFor (record {
    server = l.fn.server.inner;
    plans = map (λ mind. g.M.Mind.plan mind) l.fn.server.minds.items;
  }) w → HasPlayed (replicate l._tick ticked) w
      (record {
        server = l.server.inner;
        plans = map (λ mind. g.M.Mind.plan mind) l.server.minds.items;
      }) (g.O.Sink.held l.fn.out) (g.O.Sink.held l.out);
  age : age_of l.server.inner ≡ age_of l.fn.server.inner + l._tick;
  counts : StandsOrRises (g.O.Sink.faults l.fn.out) (g.O.Sink.faults l.out);
}
