use Rattle.std.proofs.Common.{◌≡◌, ◌≤◌, ◌+◌, ◌*◌, map}
use Rattle.std.specs.List.{flat_map, range_with_len}
use Rattle.mc_model.specs.World.{World}
use Rattle.mc_events.specs.Served.{age_of}
use Rattle.mc_server.specs.Minded.{StandsFor}
use Rattle.mc_load.specs.Load.{load_round}
use Rattle.mc_measure.specs.Plays.{HasPlayed, event_most}
use Rattle.mc_measure.proofs.playing.play_rounds.Given as goal

abbrev pub invariant-loop-done : goal.invariant-loop-done
invariant-loop-done g l = record {
  played : (w : World) → StandsFor (record {
    server = l.fn.server.inner;
    plans = map (λ mind. g.M.Mind.plan mind) l.fn.server.minds.items;
  }) w → HasPlayed (flat_map (load_round l.fn.clients) (range_with_len 1 l.done)) w (record {
    server = l.server.inner;
    plans = map (λ mind. g.M.Mind.plan mind) l.server.minds.items;
  }) l.total;
  age : age_of l.server.inner ≡ age_of l.fn.server.inner + l.done;
  few : l.total ≤ l.done * (51 * event_most);
}
