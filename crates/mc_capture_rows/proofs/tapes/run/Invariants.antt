use Rattle.mc_capture.specs.TapeStart.{start_of}
use Rattle.mc_capture_rows.proofs.tapes.run.Given as goal

-- the lobby and the sink as they are taped
abbrev pub ghosts-run_since : goal.ghosts-run_since
ghosts-run_since g a = record {
  start = start_of g.L.Lobby.told g.L.Lobby.counts g.O.Sink.held g.O.Sink.faults a.taped;
}
