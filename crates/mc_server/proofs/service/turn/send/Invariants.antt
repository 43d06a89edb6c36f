use Rattle.std.proofs.Common.{◌≡◌, true}
use Rattle.mc_wire.specs.Becoming.{HasLogged}
use Rattle.mc_wire.specs.LobbyCounts.{StandOrRise}
use Rattle.mc_model.specs.World.{World}
use Rattle.mc_events.specs.Served.{age_of}
use Rattle.mc_events.specs.Stands.{Stands, owes}
use Rattle.mc_server.proofs.Writing.{IsSending}
use Rattle.mc_server.proofs.service.turn.send.Given as goal

-- pieces were put so far
abbrev pub invariant-sending : goal.invariant-sending
invariant-sending g l = record {
  sending : (w : World) → Stands l.fn.server w → IsSending l.k (g.L.Lobby.told l.fn.lobby)
      (g.L.Lobby.told l.lobby) w l.server;
  age : age_of l.server ≡ age_of l.fn.server;
  logs : HasLogged (g.L.Lobby.told l.fn.lobby) (g.L.Lobby.told l.lobby);
  hears : g.L.Lobby.listens l.lobby ≡ true;
  falls : StandOrRise (g.L.Lobby.counts l.fn.lobby) (g.L.Lobby.counts l.lobby);
}

abbrev pub decreases-sending : goal.decreases-sending
decreases-sending g l = owes l.k l.server
