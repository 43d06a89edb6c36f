use Rattle.std.proofs.Common.{◌+◌, ◌≤◌, take, drop, map}
use Rattle.mc_wire.specs.Count.{StandsOrRises}
use Rattle.mc_model.specs.World.{World}
use Rattle.mc_events.specs.Served.{age_of}
use Rattle.mc_server.specs.Minded.{StandsFor}
use Rattle.mc_top.specs.ReplayText.{events_of}
use Rattle.mc_top.specs.Replaying.{HasPlayed, ticks_of}
use Rattle.mc_top.proofs.replay.play_all.Given as goal

abbrev pub invariant-loop-event : goal.invariant-loop-event
invariant-loop-event g l = record {
  played : (w : World) → StandsFor (record {
    server = l.fn.server.inner;
    plans = map (λ mind. g.M.Mind.plan mind) l.fn.server.minds.items;
  }) w →
      HasPlayed (events_of (take l.event-index l.fn.events)) w (record {
        server = l.server.inner;
        plans = map (λ mind. g.M.Mind.plan mind) l.server.minds.items;
      }) (g.O.Sink.held l.fn.out)
      (g.O.Sink.held l.out);
  young : age_of l.server.inner + ticks_of (drop l.event-index l.fn.events) ≤ 1000000000;
  counts : StandsOrRises (g.O.Sink.faults l.fn.out) (g.O.Sink.faults l.out);
}
