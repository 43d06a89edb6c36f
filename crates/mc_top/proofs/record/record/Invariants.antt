use Rattle.mc_capture.specs.TapeStart.{start_of}
use Rattle.mc_top.proofs.record.record.Given as goal

-- the lobby and the output as they are taped
abbrev pub ghosts-drive_taped : goal.ghosts-drive_taped
ghosts-drive_taped g a = record {
  start = start_of g.L.Lobby.told g.L.Lobby.counts g.O.Sink.held g.O.Sink.faults a.taped;
}
