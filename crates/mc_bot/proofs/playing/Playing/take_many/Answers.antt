use Rattle.std.proofs.lemmas.Result.{err_from_is_err_and}
use Rattle.mc_bot.proofs.Lines.{one_fewer, one_fails, none_left}
use Rattle.mc_bot.proofs.Loops.{underway_none, underway_more, underway_fails, underway_ends}
use Rattle.mc_bot.proofs.playing.Playing.take_many.Goals as goal

pub loop-left-init : goal.loop-left-init
loop-left-init g c = underway_none c.requires.ready

pub returns-in_err-take-clause-step : goal.returns-in_err-take-clause-step
returns-in_err-take-clause-step g c =
    let p = err_from_is_err_and c.from_residual.result c.from_residual.ensures.1 in
    rw (p.1, p.2) (underway_fails c.loop-left.invariant
    (one_fails _ c.loop-left-test.true c.in_err-take.ensures.step))

pub loop-left-preserved : goal.loop-left-preserved
loop-left-preserved g c = underway_more c.loop-left.invariant
    (one_fewer _ c.loop-left-test.true c.in_ok-take.ensures.step.0) c.in_ok-take.ensures.step.1
    c.in_ok-take.ensures.link.1

pub returns-clause-step : goal.returns-clause-step
returns-clause-step g c = underway_ends c.loop-left.invariant (none_left _ c.loop-left-test.false)
