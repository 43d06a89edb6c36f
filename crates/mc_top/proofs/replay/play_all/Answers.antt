use Rattle.std.proofs.Common.{take, arith}
use Rattle.std.proofs.lemmas.Result.{err_from_is_err_and}
use Rattle.mc_wire.proofs.Counts.{StandsOrRises-trans}
use Rattle.mc_top.specs.ReplayText.{events_of}
use Rattle.mc_measure.specs.Settling.{settled_world}
use Rattle.mc_top.proofs.Playing.{lines_played, lines_stopped, lines_done}
use Rattle.mc_top.proofs.Playing.{ticks_left}
use Rattle.mc_top.proofs.replay.play_all.Goals as goal

pub returns-in_err-play_line-clause-stopped : goal.returns-in_err-play_line-clause-stopped
returns-in_err-play_line-clause-stopped g c w s =
    let es = c.args.events.now in
    let i = c.loop-event.event-index in
    let before = c.loop-event.invariant.played w s in
    let stopped = c.in_err-play_line.ensures.stopped (settled_world w (events_of (take i es)))
    before.stands in
    let p = err_from_is_err_and c.from_residual.result c.from_residual.ensures.1 in
    rw p.1 (lines_stopped es i c.event-item.result w _ _ _ _
    c.loop-event-test.true c.event-item.is before stopped)

pub loop-event-preserved : goal.loop-event-preserved
loop-event-preserved g c =
    let es = c.args.events.now in
    let i = c.loop-event.event-index in
    record {
      played = λ w s.
          let before = c.loop-event.invariant.played w s in
          let played = c.in_ok-play_line.ensures.played (settled_world w (events_of (take i es)))
          before.stands in
          lines_played es i c.event-item.result w _ _ _ _ _
          c.loop-event-test.true c.event-item.is before played;
      young =
          let left = ticks_left es i c.event-item.result c.loop-event-test.true c.event-item.is in
          let more = c.in_ok-play_line.ensures.age in
          let young = c.loop-event.invariant.young in
          omega (arith, left, more, young);
      counts = StandsOrRises-trans _ _ _ c.loop-event.invariant.counts c.play_line.ensures.counts;
    }

pub returns-clause-played : goal.returns-clause-played
returns-clause-played g c w s = lines_done c.args.events.now c.loop-event.event-index w
    _ _ _ c.loop-event-test.false (c.loop-event.invariant.played w s)
