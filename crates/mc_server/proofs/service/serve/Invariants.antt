use Rattle.std.proofs.Common.{◌≡◌, ◌≤◌, ◌<◌, true, map}
use Rattle.std.specs.FinMap.{empty}
use Rattle.mc_wire.specs.Becoming.{HasLogged}
use Rattle.mc_wire.specs.LobbyCounts.{StandOrRise}
use Rattle.mc_model.specs.World.{World}
use Rattle.mc_events.specs.Served.{age_of}
use Rattle.mc_server.specs.Minded.{StandsFor}
use Rattle.mc_server.proofs.Driven.{IsDriving}
use Rattle.mc_server.proofs.service.serve.Given as goal

-- so many turns were done
abbrev pub invariant-loop-round : goal.invariant-loop-round
invariant-loop-round g l = record {
  driving : (w : World) → StandsFor (record {
    server = l.fn.server.inner;
    plans = map (λ mind. g.M.Mind.plan mind) l.fn.server.minds.items;
  }) w → w.links ≡ empty →
      IsDriving (g.L.Lobby.told l.fn.lobby) (g.L.Lobby.told l.lobby) w (record {
        server = l.server.inner;
        plans = map (λ mind. g.M.Mind.plan mind) l.server.minds.items;
      }) l._round l.joins l.closed;
  young : age_of l.server.inner < l.budget.ticks;
  few : l.joins ≤ l._round;
  logs : HasLogged (g.L.Lobby.told l.fn.lobby) (g.L.Lobby.told l.lobby);
  hears : g.L.Lobby.listens l.lobby ≡ true;
  falls : StandOrRise (g.L.Lobby.counts l.fn.lobby) (g.L.Lobby.counts l.lobby);
}
