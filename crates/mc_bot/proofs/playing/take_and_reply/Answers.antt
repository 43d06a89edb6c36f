use Rattle.std.proofs.lemmas.Result.{err_from_is_err_and}
use Rattle.mc_bot.proofs.Taking.{in_failed}
use Rattle.mc_bot.specs.Playing.{rules_of}
use Rattle.mc_bot.proofs.playing.take_and_reply.Goals as goal

pub returns-in_err-take_in-clause-taken : goal.returns-in_err-take_in-clause-taken
returns-in_err-take_in-clause-taken g c =
    let rules = rules_of g.S.Seer.refused g.S.Seer.taken g.S.Seer.asked g.S.Seer.sent
    g.S.Seer.block_at g.S.Seer.slot_at g.S.Seer.window_at g.S.Seer.text in
    let p = err_from_is_err_and c.from_residual.result c.from_residual.ensures.1 in
    rw (p.1, p.2) (in_failed rules _ _ _ _ _ c.requires.stays c.in_err-take_in.ensures)
