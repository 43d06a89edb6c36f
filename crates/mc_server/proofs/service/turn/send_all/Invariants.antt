use Rattle.std.proofs.Common.{◌≡◌, true, drop}
use Rattle.mc_wire.specs.Becoming.{HasLogged}
use Rattle.mc_wire.specs.LobbyCounts.{StandOrRise}
use Rattle.mc_model.specs.World.{World}
use Rattle.mc_events.specs.Asking.{pending_in}
use Rattle.mc_events.specs.Served.{age_of}
use Rattle.mc_events.specs.Stands.{Stands}
use Rattle.mc_server.proofs.Writing.{IsSendingAll}
use Rattle.mc_server.proofs.service.turn.send_all.Given as goal

-- the others are left
abbrev pub invariant-loop-k : goal.invariant-loop-k
invariant-loop-k g l = record {
  sending : (w : World) → Stands l.fn.server w → l.fn.pending ≡ pending_in w →
      IsSendingAll (drop l.k-index l.fn.pending) (g.L.Lobby.told l.fn.lobby)
      (g.L.Lobby.told l.lobby) w l.server;
  age : age_of l.server ≡ age_of l.fn.server;
  logs : HasLogged (g.L.Lobby.told l.fn.lobby) (g.L.Lobby.told l.lobby);
  hears : g.L.Lobby.listens l.lobby ≡ true;
  falls : StandOrRise (g.L.Lobby.counts l.fn.lobby) (g.L.Lobby.counts l.lobby);
}
