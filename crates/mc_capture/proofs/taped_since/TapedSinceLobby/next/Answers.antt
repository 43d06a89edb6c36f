use Rattle.mc_capture.proofs.Tapes.{faults_next, tape_next}
use Rattle.mc_capture.proofs.taped_since.TapedSinceLobby.next.Goals as goal

pub invariant_of-self-clause-tape : goal.invariant_of-self-clause-tape
invariant_of-self-clause-tape g c =
    let old = c.args.self.now in
    tape_next g.L.Lobby.told g.O.Sink.held g.O.Sink.faults g.S.Started.start old.taped
    c.next.new.self (g.L.Lobby.listens old.taped.lobby.now) c.next.new.buf c.next.result old.tape
    old.begun c.requires.listening c.next.ensures.tells c.next.ensures.writes c.next.ensures.kept
    c.next.ensures.unwritten

pub invariant_of-self-clause-faults : goal.invariant_of-self-clause-faults
invariant_of-self-clause-faults g c =
    let old = c.args.self.now in
    faults_next g.O.Sink.held g.O.Sink.faults g.S.Started.start old.taped c.next.new.self
    c.next.new.buf c.next.result old.faults c.next.ensures.writes c.next.ensures.unwritten
