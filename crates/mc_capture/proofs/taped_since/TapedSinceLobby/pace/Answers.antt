use Rattle.mc_capture.specs.TapedView.{mark_of}
use Rattle.mc_capture.proofs.Tapes.{tape_pace}
use Rattle.mc_capture.proofs.taped_since.TapedSinceLobby.pace.Goals as goal

pub invariant_of-self-clause-tape : goal.invariant_of-self-clause-tape
invariant_of-self-clause-tape g c =
    let old = c.args.self.now in
    rw c.pace.ensures.rest (tape_pace g.S.Started.start (g.L.Lobby.told old.taped.lobby.now)
    (g.L.Lobby.told c.pace.new.self.lobby.now)
    (mark_of g.O.Sink.held g.O.Sink.faults old.taped) c.args.pace old.tape c.pace.ensures.tells)
