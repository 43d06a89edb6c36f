use Rattle.std.proofs.Common.{◌≡◌, ◌≤◌, ◌*◌, map}
use Rattle.std.specs.List.{range_with_len}
use Rattle.mc_model.specs.World.{World}
use Rattle.mc_events.specs.Served.{age_of}
use Rattle.mc_server.specs.Minded.{StandsFor}
use Rattle.mc_load.specs.Load.{client_turn}
use Rattle.mc_measure.specs.Plays.{HasPlayed, event_most}
use Rattle.mc_measure.proofs.playing.turn_all.Given as goal

abbrev pub invariant-loop-client : goal.invariant-loop-client
invariant-loop-client g l = record {
  played : (w : World) → StandsFor (record {
    server = l.fn.server.inner;
    plans = map (λ mind. g.M.Mind.plan mind) l.fn.server.minds.items;
  }) w → HasPlayed (map (client_turn l.fn.tick) (range_with_len 0 l.client)) w (record {
    server = l.server.inner;
    plans = map (λ mind. g.M.Mind.plan mind) l.server.minds.items;
  }) l.total;
  age : age_of l.server.inner ≡ age_of l.fn.server.inner;
  few : l.total ≤ l.client * event_most;
}
