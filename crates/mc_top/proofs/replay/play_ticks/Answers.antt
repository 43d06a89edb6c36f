use Rattle.std.proofs.Common.{arith}
use Rattle.std.specs.Prelude.{replicate}
use Rattle.std.proofs.lemmas.Result.{err_from_is_err_and}
use Rattle.mc_wire.proofs.Counts.{StandsOrRises-trans}
use Rattle.mc_model.specs.Step.{ticked}
use Rattle.mc_measure.specs.Settling.{settled_world}
use Rattle.mc_top.proofs.Playing.{ticks_played, ticks_stopped}
use Rattle.mc_top.proofs.replay.play_ticks.Goals as goal

pub returns-in_err-play-clause-stopped : goal.returns-in_err-play-clause-stopped
returns-in_err-play-clause-stopped g c w s =
    let n = c.loop-tick._tick in
    let before = c.loop-tick.invariant.played w s in
    let stopped = c.in_err-play.ensures.stopped (settled_world w (replicate n ticked)) before.stands
    in
    let p = err_from_is_err_and c.from_residual.result c.from_residual.ensures.1 in
    rw p.1 (ticks_stopped n c.args.count w _ _ _ _ c.loop-tick-test.true
    before stopped)

pub loop-tick-preserved : goal.loop-tick-preserved
loop-tick-preserved g c = record {
  played = λ w s.
      let n = c.loop-tick._tick in
      let before = c.loop-tick.invariant.played w s in
      ticks_played n w _ _ _ _ _ before
      (c.in_ok-play.ensures.played (settled_world w (replicate n ticked)) before.stands);
  age =
      let more = c.in_ok-play.ensures.age in
      let so_far = c.loop-tick.invariant.age in
      omega (arith, more, so_far);
  counts = StandsOrRises-trans _ _ _ c.loop-tick.invariant.counts c.play.ensures.counts;
}
