use Rattle.mc_wire.specs.declared.log.LogEntry.TheVariants.{Closed}
use Rattle.mc_capture.specs.TapedView.{mark_of}
use Rattle.mc_capture.proofs.Tapes.{faults_since, tape_entry}
use Rattle.mc_capture.proofs.taped_since.TapedSinceLobby.close.Goals as goal

pub invariant_of-self-clause-tape : goal.invariant_of-self-clause-tape
invariant_of-self-clause-tape g c =
    let old = c.args.self.now in
    let new = c.close.new.self in
    tape_entry g.S.Started.start (g.L.Lobby.told old.taped.lobby.now) (g.L.Lobby.told new.lobby.now)
    (mark_of g.O.Sink.held g.O.Sink.faults old.taped) (mark_of g.O.Sink.held g.O.Sink.faults new)
    (Closed c.args.k) old.taped.heard (g.L.Lobby.listens old.taped.lobby.now) old.tape old.begun
    c.requires.listening c.close.ensures.tells c.close.ensures.writes

pub invariant_of-self-clause-faults : goal.invariant_of-self-clause-faults
invariant_of-self-clause-faults g c =
    faults_since g.S.Started.start _ _ _ c.args.self.now.faults c.close.ensures.writes
