use Rattle.std.proofs.Common.{refl}
use Rattle.std.proofs.lemmas.Result.{err_from_is_err_and}
use Rattle.mc_model.specs.Step.{step}
use Rattle.mc_events.specs.Inputs.{event_of}
use Rattle.mc_top.specs.ReplayText.{lines_after}
use Rattle.mc_top.proofs.Playing.{played_one, stands_settled, stopped_one}
use Rattle.mc_top.proofs.replay.play.Goals as goal

pub returns-in_err-put_lines-clause-stopped : goal.returns-in_err-put_lines-clause-stopped
returns-in_err-put_lines-clause-stopped g c w s =
    let e = event_of c.args.input in
    let now = c.in_ok-event.ensures.follows w s in
    let b = c.in_err-put_lines.ensures.breaks (step w e).world now.stands in
    let p = err_from_is_err_and c.from_residual-in_err-put_lines.result
    c.from_residual-in_err-put_lines.ensures.1 in
    rw p.1 (stopped_one e w _ _ (lines_after (step w e).world) refl (b.len, b.wrote))

pub returns-clause-played : goal.returns-clause-played
returns-clause-played g c w s =
    let e = event_of c.args.input in
    let now = c.in_ok-event.ensures.follows w s in
    let put = c.in_ok-put_lines.ensures.settled (step w e).world now.stands in
    played_one e w _ _ _ (lines_after (step w e).world)
    (stands_settled (step w e).world c.put_lines.new.server _ put.0 now.plans) refl put.1
