use Rattle.std.proofs.Common.{sym, ◌∙◌}
use Rattle.std.proofs.lemmas.List.{drop_all}
use Rattle.std.proofs.lemmas.Result.{err_from_is_err_and}
use Rattle.mc_bot.proofs.Lines.{line_comes, line_fails, line_leaves, no_line}
use Rattle.mc_bot.proofs.Loops.{underway_none, underway_more, underway_fails, underway_ends}
use Rattle.mc_bot.proofs.Loops.{next_line}
use Rattle.mc_bot.proofs.playing.Playing.play_lines.Goals as goal

pub loop-line-init : goal.loop-line-init
loop-line-init g c = underway_none c.requires.ready

pub returns-then-is_leaving-clause-step : goal.returns-then-is_leaving-clause-step
returns-then-is_leaving-clause-step g c = underway_ends c.loop-line.invariant (line_leaves _
    (next_line c.args.lines.now c.loop-line.line-index c.line-item.result c.loop-line-test.true
    c.line-item.is) (sym c.is_leaving.ensures ∙ c.if-is_leaving.true))

pub returns-in_err-play_line-clause-step : goal.returns-in_err-play_line-clause-step
returns-in_err-play_line-clause-step g c =
    let p = err_from_is_err_and c.from_residual.result c.from_residual.ensures.1 in
    rw (p.1, p.2) (underway_fails c.loop-line.invariant (line_fails _
    (next_line c.args.lines.now c.loop-line.line-index c.line-item.result c.loop-line-test.true
    c.line-item.is) c.in_err-play_line.ensures.step))

pub loop-line-preserved : goal.loop-line-preserved
loop-line-preserved g c = underway_more c.loop-line.invariant (line_comes _
    (next_line c.args.lines.now c.loop-line.line-index c.line-item.result c.loop-line-test.true
    c.line-item.is) c.in_ok-play_line.ensures.step.0) c.in_ok-play_line.ensures.step.1
    c.in_ok-play_line.ensures.link.1

pub returns-clause-step : goal.returns-clause-step
returns-clause-step g c = underway_ends c.loop-line.invariant
    (no_line _ (drop_all c.loop-line.line-index c.args.lines.now c.loop-line-test.false))
