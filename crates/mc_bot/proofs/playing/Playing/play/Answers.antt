use Rattle.std.proofs.lemmas.Result.{err_from_is_err_and}
use Rattle.mc_bot.specs.Playing.{rules_of}
use Rattle.mc_bot.proofs.Starting.{login_next_fails, login_fails, login_step}
use Rattle.mc_bot.proofs.playing.Playing.play.Goals as goal

pub returns-in_err-frame-clause-step : goal.returns-in_err-frame-clause-step
returns-in_err-frame-clause-step g c =
    let rules = rules_of g.S.Seer.refused g.S.Seer.taken g.S.Seer.asked g.S.Seer.sent
    g.S.Seer.block_at g.S.Seer.slot_at g.S.Seer.window_at g.S.Seer.text in
    let p = err_from_is_err_and c.from_residual.result c.from_residual.ensures.1 in
    rw (p.1, p.2, ← c.self.view_is) (login_next_fails rules c.args.lines.now _ _ _ _ _
    c.in_err-frame.ensures.next)

pub returns-in_err-take_login-clause-step : goal.returns-in_err-take_login-clause-step
returns-in_err-take_login-clause-step g c =
    let rules = rules_of g.S.Seer.refused g.S.Seer.taken g.S.Seer.asked g.S.Seer.sent
    g.S.Seer.block_at g.S.Seer.slot_at g.S.Seer.window_at g.S.Seer.text in
    let p = err_from_is_err_and c.from_residual-in_err-take_login.result
    c.from_residual-in_err-take_login.ensures.1 in
    let taken = rw c.as_slice.ensures at c.in_err-take_login.ensures in
    rw (p.1, p.2, ← c.self.view_is) (login_fails rules c.args.lines.now c.args.seer.now _ _ _
    _ _ _ _ c.in_ok-frame.ensures.next taken)

pub returns-clause-step : goal.returns-clause-step
returns-clause-step g c =
    let rules = rules_of g.S.Seer.refused g.S.Seer.taken g.S.Seer.asked g.S.Seer.sent
    g.S.Seer.block_at g.S.Seer.slot_at g.S.Seer.window_at g.S.Seer.text in
    let taken = rw c.as_slice.ensures at c.in_ok-take_login.ensures in
    let step = rw c.saturating_add-self-inside.ensures at c.play_lines.ensures.step in
    rw (← c.self.view_is) (login_step rules c.args.lines.now c.args.seer.now _ _ _ _ _ _ _ _ _
    c.in_ok-frame.ensures.next taken step)
