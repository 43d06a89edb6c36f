use Rattle.mc_capture.specs.TapedView.{mark_of}
use Rattle.mc_capture.proofs.Tapes.{faults_since, tape_head}
use Rattle.mc_capture.proofs.taped_since.TapedSinceLobby.listen.Goals as goal

pub invariant_of-self-clause-tape : goal.invariant_of-self-clause-tape
invariant_of-self-clause-tape g c =
    let old = c.args.self.now in
    let new = c.listen.new.self in
    tape_head g.S.Started.start (g.L.Lobby.told old.taped.lobby.now) (g.L.Lobby.told new.lobby.now)
    (mark_of g.O.Sink.held g.O.Sink.faults old.taped) (mark_of g.O.Sink.held g.O.Sink.faults new)
    c.args.port old.tape c.listen.ensures.tells c.listen.ensures.writes c.listen.ensures.begun

pub invariant_of-self-clause-faults : goal.invariant_of-self-clause-faults
invariant_of-self-clause-faults g c =
    faults_since g.S.Started.start _ _ _ c.args.self.now.faults c.listen.ensures.writes
