use Rattle.std.proofs.Common.{◌≡◌, ◌≤◌, true, drop}
use Rattle.mc_wire.specs.Becoming.{HasLogged}
use Rattle.mc_wire.specs.LobbyCounts.{StandOrRise}
use Rattle.mc_model.specs.World.{World}
use Rattle.mc_events.specs.Served.{age_of}
use Rattle.mc_events.specs.Stands.{Stands}
use Rattle.mc_server.specs.TurnParts.{HoldsDone}
use Rattle.mc_server.proofs.Closing.{IsClosing}
use Rattle.mc_server.proofs.service.turn.close_all.Given as goal

-- the others are left
abbrev pub invariant-loop-k : goal.invariant-loop-k
invariant-loop-k g l = record {
  closing : (w : World) → Stands l.fn.server w → HoldsDone w l.fn.pending →
      IsClosing (drop l.k-index l.fn.pending) (g.L.Lobby.told l.fn.lobby)
      (g.L.Lobby.told l.lobby) w l.server l.count;
  few : l.count ≤ l.k-index;
  age : age_of l.server ≡ age_of l.fn.server;
  logs : HasLogged (g.L.Lobby.told l.fn.lobby) (g.L.Lobby.told l.lobby);
  hears : g.L.Lobby.listens l.lobby ≡ true;
  falls : StandOrRise (g.L.Lobby.counts l.fn.lobby) (g.L.Lobby.counts l.lobby);
}
