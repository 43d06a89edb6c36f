-- A server that nothing had happened to served a lobby: the whole promise holds of that.
use Rattle.std.proofs.Common.{Option, Result, sym, subst}
use Rattle.mc_wire.specs.LobbyTold.{LobbyTold, with_port}
use Rattle.mc_model.specs.Game.{AreSettings}
use Rattle.mc_model.specs.Minds.{Start}
use Rattle.mc_model.specs.Run.{AreBytes}
use Rattle.mc_model.specs.Log.{events_in}
use Rattle.mc_model.specs.World.{new_world}
use Rattle.mc_laws.proofs.Headline.Promise.{headline}
use Rattle.mc_laws.proofs.Serving.Serves.{serves}
use Rattle.mc_laws.proofs.Serving.Turns.{turns_are_bytes}
use Rattle.mc_events.specs.Served.{ServerValue}
use Rattle.mc_server.specs.declared.service.Budget.{Budget}
use Rattle.mc_server.specs.declared.service.Ended.{Ended}
use Rattle.mc_server.specs.declared.service.DriveFault.{DriveFault}
use Rattle.mc_server.specs.Drives.{Drove, DroveNew, done_log}
use Rattle.mc_server.proofs.Driven.{events_done}

pub drove_new : (budget : Budget) (old new : Option LobbyTold) (start : Start)
    (server : ServerValue) (result : Result Ended DriveFault) →
    AreSettings start.settings.players start.settings.cap →
    Drove (with_port budget.port) budget old new (new_world start) server result →
    DroveNew budget old new start server result
drove_new budget old new start server result are d =
    let w = new_world start in
    record {
      drove = d;
      headline = headline start (events_in (done_log result d.turns d.last)) are
          (subst AreBytes (sym (events_done budget w d.turns d.last result d.ends))
          (turns_are_bytes w d.turns d.are_turns));
      serves = serves start d.turns d.are_turns;
    }
