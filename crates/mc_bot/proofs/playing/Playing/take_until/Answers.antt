use Rattle.std.proofs.Common.{sym, ◌∙◌}
use Rattle.std.proofs.lemmas.Result.{err_from_is_err_and}
use Rattle.mc_bot.proofs.Lines.{until_comes, until_fails, until_done}
use Rattle.mc_bot.proofs.Loops.{underway_none, underway_more, underway_fails, underway_ends}
use Rattle.mc_bot.proofs.playing.Playing.take_until.Goals as goal

pub loop-cell-init : goal.loop-cell-init
loop-cell-init g c = underway_none c.requires.ready

pub loop-cell-preserved : goal.loop-cell-preserved
loop-cell-preserved g c = underway_more c.loop-cell.invariant
    (until_comes _ _ _ (sym c.has_state.ensures ∙ c.loop-cell-test.true)
    c.in_ok-take.ensures.step.0)
    c.in_ok-take.ensures.step.1 c.in_ok-take.ensures.link.1

pub returns-in_err-take-clause-step : goal.returns-in_err-take-clause-step
returns-in_err-take-clause-step g c =
    let p = err_from_is_err_and c.from_residual.result c.from_residual.ensures.1 in
    rw (p.1, p.2) (underway_fails c.loop-cell.invariant
    (until_fails _ _ _ (sym c.has_state.ensures ∙ c.loop-cell-test.true)
    c.in_err-take.ensures.step))

pub returns-clause-step : goal.returns-clause-step
returns-clause-step g c = underway_ends c.loop-cell.invariant
    (until_done _ _ _ (sym c.has_state.ensures ∙ c.loop-cell-test.false))
