use Rattle.std.proofs.lemmas.Result.{err_from_is_err_and}
use Rattle.mc_bot.proofs.Taking.{read_taken, unread_taken}
use Rattle.mc_bot.specs.Playing.{rules_of}
use Rattle.mc_bot.proofs.playing.take_frame.Goals as goal

pub returns-in_err-packet-clause-taken : goal.returns-in_err-packet-clause-taken
returns-in_err-packet-clause-taken g c =
    let rules = rules_of g.S.Seer.refused g.S.Seer.taken g.S.Seer.asked g.S.Seer.sent
    g.S.Seer.block_at g.S.Seer.slot_at g.S.Seer.window_at g.S.Seer.text in
    let p = err_from_is_err_and c.from_residual.result c.from_residual.ensures.1 in
    rw (p.1, p.2) (unread_taken rules _ _ _ _ _ c.in_err-packet.ensures)

pub returns-clause-taken : goal.returns-clause-taken
returns-clause-taken g c =
    let rules = rules_of g.S.Seer.refused g.S.Seer.taken g.S.Seer.asked g.S.Seer.sent
    g.S.Seer.block_at g.S.Seer.slot_at g.S.Seer.window_at g.S.Seer.text in
    read_taken rules _ c.in_ok-packet.packet _ _ c.args.count _ _ _ c.in_ok-packet.ensures
    c.apply-taken.ensures.taken
