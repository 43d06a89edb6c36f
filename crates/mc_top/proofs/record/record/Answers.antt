use Rattle.std.proofs.Common.{rules, inl, sym, ap}
use Rattle.mc_capture.specs.TapeStart as tapes
use Rattle.mc_top.specs.ReplayPromise.{start_of}
use Rattle.mc_top.proofs.Recordings.{records, records_as, untaped}
use Rattle.mc_top.proofs.record.record.Goals as goal

pub returns-in_default : goal.returns-in_default
returns-in_default g c = λ link left reads. (
  inl c.pace.ensures.tells,
  untaped _ _ _ c.args.options.pace c.pace.ensures.tells,
)

pub returns : goal.returns
returns g c = λ link left reads.
    let now = c.new-taped.ensures.lobby_now in
    let drove = c.drive_taped-recorded.ensures in
    let taped = c.drive_taped-recorded.result.taped in
    records_as _ c.args.options _ _ _ (g.L.Lobby.told taped.lobby.now) _ _
    (g.L.Lobby.counts taped.lobby.now) _ link left reads _ _ (g.O.Sink.held taped.out.now) _ _ _
    (g.O.Sink.faults taped.out.now) _ c.ended_recording.ensures (search rules) (search rules)
    (ap g.O.Sink.held (sym c.new-taped.ensures.out_now)) (search rules)
    (ap g.O.Sink.faults (sym c.new-taped.ensures.out_now)) (search rules)
    (records _ c.args.options (tapes.start_of g.L.Lobby.told g.L.Lobby.counts g.O.Sink.held
    g.O.Sink.faults c.new-taped.result) _ _ _ _ _ link left reads c.budget_of.result c.sink_failed.result
    c.drive_taped-recorded.result.end _ (rw now c.pace.ensures.tells)
    (rw now c.pace.ensures.falls.faults) c.budget_of.ensures
    (drove.drove (start_of _ c.args.options.world) c.requires.world c.in-Ok.ensures.stands)
    drove.asks drove.lost drove.tape drove.faults c.sink_failed.ensures)
