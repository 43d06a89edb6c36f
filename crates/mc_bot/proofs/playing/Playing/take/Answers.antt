use Rattle.std.proofs.lemmas.Result.{err_from_is_err_and}
use Rattle.mc_bot.specs.Playing.{rules_of}
use Rattle.mc_bot.proofs.Taking.{packet_next_fails, packet_fails, packet_comes, next_goes_on}
use Rattle.mc_bot.proofs.playing.Playing.take.Goals as goal

pub returns-in_err-frame-clause-step : goal.returns-in_err-frame-clause-step
returns-in_err-frame-clause-step g c =
    let rules = rules_of g.S.Seer.refused g.S.Seer.taken g.S.Seer.asked g.S.Seer.sent
    g.S.Seer.block_at g.S.Seer.slot_at g.S.Seer.window_at g.S.Seer.text in
    let p = err_from_is_err_and c.from_residual.result c.from_residual.ensures.1 in
    rw (p.1, p.2, ← c.self.view_is) (packet_next_fails rules _ _ _ _ _ c.in_err-frame.ensures.next)

pub returns-in_err-take_frame-clause-step : goal.returns-in_err-take_frame-clause-step
returns-in_err-take_frame-clause-step g c =
    let rules = rules_of g.S.Seer.refused g.S.Seer.taken g.S.Seer.asked g.S.Seer.sent
    g.S.Seer.block_at g.S.Seer.slot_at g.S.Seer.window_at g.S.Seer.text in
    let p = err_from_is_err_and c.from_residual-in_err-take_frame.result
    c.from_residual-in_err-take_frame.ensures.1 in
    let taken = rw c.as_slice.ensures at c.in_err-take_frame.ensures.taken in
    rw (p.1, p.2, ← c.self.view_is) (packet_fails rules _ _ _ _ _ _ _ _ _ _ _
    c.in_ok-frame.ensures.next taken c.in_err-take_frame.ensures.stands)

pub returns-clause-step : goal.returns-clause-step
returns-clause-step g c =
    let rules = rules_of g.S.Seer.refused g.S.Seer.taken g.S.Seer.asked g.S.Seer.sent
    g.S.Seer.block_at g.S.Seer.slot_at g.S.Seer.window_at g.S.Seer.text in
    let taken = rw c.as_slice.ensures at c.in_ok-take_frame.ensures.taken in
    rw (c.saturating_add-self-inside.ensures, ← c.self.view_is) (
      packet_comes rules _ _ _ _ _ _ _ _ _ c.in_ok-frame.ensures.next taken,
      next_goes_on _ _ _ _ _ _ _ c.in_ok-frame.ensures.next c.in_ok-take_frame.ensures.stands,
    )
